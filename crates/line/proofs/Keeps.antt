-- What is left is as long as what there was: by either of two ways, of two parts, and of a line of frames. Assumes nothing.
use Rattle.std.proofs.Common.{◌≡◌, refl, ap, Bool, true, false, cond, List, ◌++◌, ℕ, arith, Float, length, take, drop, length-set, length-append, take-append-drop}
use Rattle.frame.specs.declared.Frame.{Frame}
use Rattle.line.specs.Held.{Held, front, back, joined, Ran}
use Rattle.line.specs.Frames.{frame_in}

-- the same lengths
pub record Same (a b : Held) : Type 0 where
  pub store : length a.store ≡ length b.store
  pub positions : length a.positions ≡ length b.positions
  pub floats : length a.floats ≡ length b.floats

pub same_refl : (a : Held) → Same a a
same_refl a = record { store = refl; positions = refl; floats = refl }

-- what is held beside a frame keeps its lengths
abbrev pub Keeps : (Ran → Ran) → Type 0
Keeps f = (r : Ran) → Same (f r).held r.held

pub cond_keeps : (t : Bool) (a b : Ran) (h : Held) → Same a.held h → Same b.held h → Same (cond t a b).held h
cond_keeps true a b h p q = p
cond_keeps false a b h p q = q

-- two parts that keep their lengths, of a list and of all that is held
parts_keep : {A : Type 0} (n : ℕ) (ys zs xs : List A) → length ys ≡ length (take n xs) → length zs ≡ length (drop n xs) → length (ys ++ zs) ≡ length xs
parts_keep n ys zs xs p q = omega (arith, length-append ys zs, length-append (take n xs) (drop n xs), ap length (take-append-drop n xs))

pub joined_keeps : (lines p f : ℕ) (a b h : Held) → Same a (front lines p f h) → Same b (back lines p f h) → Same (joined a b) h
unfolding joined front back
joined_keeps lines p f a b h s t = record {
  store = parts_keep lines a.store b.store h.store s.store t.store;
  positions = parts_keep p a.positions b.positions h.positions s.positions t.positions;
  floats = parts_keep f a.floats b.floats h.floats s.floats t.floats;
}

-- a delay's line of frames
pub frame_in_keeps : (at : ℕ) (x : Frame) (line : List Float) → length (frame_in at x line) ≡ length line
unfolding frame_in
frame_in_keeps at x line = simp length-set
