-- The chain of top stages keeps to its stretches: what crate `theory_order` asks of a chain. Assumes nothing.
use Rattle.std.proofs.Common.{◌≡◌, refl, ◌∙◌, ◌≢◌, ℕ, suc, ◌<◌, arith}
use native.Mathlib.Decide.{dec_lt}
use Rattle.line.specs.Held.{Held}
use Rattle.line.proofs.Keeps.{Same}
use Rattle.theory_order.specs.Chain.{Local, Steady}
use Rattle.stage.specs.declared.setup.Setup.{Setup}
use Rattle.line_layout.specs.Layout.{starts_of}
use Rattle.theory_steps.proofs.Keeps.{place_keeps}
use Rattle.top_stages.specs.Tops.{top_at}
use Rattle.top_stages.proofs.TopStages.{top_le, top_next, top_mono}
use Rattle.chain.specs.Chain.{stretch, replaced, Room, chain_of}
use Rattle.chain.proofs.Stretches.{Fills, stretch_fills, replaced_room, stretch_later, stretch_earlier, replaced_comm}

module _ (setup : Setup) where
  -- just what top stage k and the stages that it owns hold
  abbrev pub Sized : ℕ → Held → Type 0
  Sized k a = Fills setup (top_at setup k) (top_at setup (suc k)) a

  pub same_fills : (i e : ℕ) (a b : Held) → Same a b → Fills setup i e b → Fills setup i e a
  same_fills i e a b s f = record { store = s.store ∙ f.store; positions = s.positions ∙ f.positions; floats = s.floats ∙ f.floats }

  module _ (h : Held) (r : Room setup h) where
    apart : (j k : ℕ) (a : Held) → j ≢ k → Sized j a → stretch setup (top_at setup k) (top_at setup (suc k)) (replaced setup (top_at setup j) a h) ≡ stretch setup (top_at setup k) (top_at setup (suc k)) h
    apart j k a d f = go (dec_lt j k)
      where
        go : Dec (j < k) → stretch setup (top_at setup k) (top_at setup (suc k)) (replaced setup (top_at setup j) a h) ≡ stretch setup (top_at setup k) (top_at setup (suc k)) h
        go (yes q) = stretch_later setup h r (top_at setup j) (top_at setup (suc j)) (top_next setup j) (top_le setup (suc j)) a f (top_at setup k) (top_at setup (suc k)) (top_mono setup (suc j) k (omega arith))
        go (no q) = stretch_earlier setup h r (top_at setup j) (top_at setup (suc j)) (top_next setup j) (top_le setup (suc j)) a f (top_at setup k) (top_at setup (suc k)) (top_next setup k) (top_mono setup (suc k) j (omega arith))

  pub chain_local : Local (chain_of setup) (Room setup) Sized
  chain_local = record {
    makes = λ k m x a h q f. record { frame = refl; held = same_fills (top_at setup k) (top_at setup (suc k)) _ a (place_keeps setup (starts_of setup) (top_at setup k) (top_at setup (suc k)) _) f };
    own_sized = λ k h q r. stretch_fills setup h r (top_at setup k) (top_at setup (suc k)) (top_next setup k) (top_le setup (suc k));
    put_fits = λ k a h q r f. replaced_room setup h r (top_at setup k) (top_at setup (suc k)) (top_next setup k) (top_le setup (suc k)) a f;
    own_apart = λ j k a h d p q r f. apart h r j k a d f;
    put_apart = λ j k a b h q p r f g. replaced_comm setup h r (top_at setup j) (top_at setup (suc j)) (top_next setup j) (top_le setup (suc j)) a f (top_at setup k) (top_at setup (suc k)) b (top_mono setup (suc j) k (omega arith)) (top_next setup k) (top_le setup (suc k)) g;
  }

  -- no stage reads where in a block it is
  pub chain_steady : Steady (chain_of setup)
  chain_steady k m m' x a = refl
