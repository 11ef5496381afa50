-- Rendering whole frame after whole frame: as an order, and again with no order and no progress, by recursion over the
-- frames.
use Rattle.std.specs.Prelude.{List, [], ◌∷◌, ◌++◌, ℕ, zero, suc, ◌*◌, take, drop}
use Rattle.theory_order.specs.Chain.{Out, State, Moment, moment, Chain}

-- ---- the order

-- the order that names each of the m stages from stage k on once
unfoldable pub each_once : ℕ → ℕ → List ℕ
each_once k zero = []
each_once k (suc m) = k ∷ each_once (suc k) m

-- the order that takes m frames, one after another, through all n stages
unfoldable pub frames : ℕ → ℕ → List ℕ
frames n zero = []
frames n (suc m) = each_once 0 n ++ frames n m

-- ---- the recursion; here an `Out` is any number of samples, with what all stages hold

module _ {X H : Type 0} where
  -- a block's samples from frame t on, with what all stages hold
  unfoldable pub from : ℕ → State X H → Out X H
  from t s = record { frame = drop (t * 2) s.samples; held = s.held }

  -- the first frame of r alone
  unfoldable pub first_frame : Out X H → Out X H
  first_frame r = record { frame = take 2 r.frame; held = r.held }

  -- all but the first frame of r, with what stages hold after q
  unfoldable pub rest : Out X H → Out X H → Out X H
  rest q r = record { frame = drop 2 r.frame; held = q.held }

  -- the samples of q and then those of u, with what stages hold after u
  unfoldable pub followed_by : Out X H → Out X H → Out X H
  followed_by q u = record { frame = q.frame ++ u.frame; held = u.held }

  module _ (C : Chain X H) where
    -- the frame of q, which stage k made of r, with what stage k holds then put back into what all hold
    unfoldable pub put_back : ℕ → Out X H → Out X H → Out X H
    put_back k q r = record { frame = q.frame; held = C.put k q.held r.held }

    module _ (here : Moment) where
      -- a frame, which stands `here` in its block, goes through stage k
      unfoldable pub through : ℕ → Out X H → Out X H
      through k r = put_back k (C.make k here r.frame (C.own k r.held)) r

      -- a frame goes through the m stages from stage k on
      unfoldable pub pass : ℕ → ℕ → Out X H → Out X H
      pass k zero r = r
      pass k (suc m) r = pass (suc k) m (through k r)

    -- in a block of F frames, the m frames from frame t on, one after another, each through all stages
    unfoldable pub frame_by_frame_from : (F t m : ℕ) → Out X H → Out X H
    frame_by_frame_from F t zero r = r
    frame_by_frame_from F t (suc m) r =
        let q = pass (moment t F) 0 C.n (first_frame r) in
        followed_by q (frame_by_frame_from F (suc t) m (rest q r))

    -- all F frames of a block, one after another, each through all stages
    abbrev pub frame_by_frame : ℕ → Out X H → Out X H
    frame_by_frame F r = frame_by_frame_from F 0 F r
