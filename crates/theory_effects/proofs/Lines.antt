-- A line in three parts, as one list with a position on it: what is read at the position, what is stored there, and where the position goes. Also of a line of frames in a list of floats. Assumes nothing.
use Rattle.std.proofs.Common.{◌≡◌, refl, sym, ap, ◌∙◌, List, [], ◌∷◌, ◌++◌, append_assoc, ◌+◌, ◌*◌, ◌≤◌, ◌<◌, arith, length, get_or, set, length-append, length-set, Float, lt-ltb, le-ltb}
use Rattle.std.specs.Float.{nan}
use lib.Seq.{get_or-append_seam, set-append_seam, get_or_at, set_at}
use Rattle.frame.specs.declared.Frame.{Frame}
use Rattle.line.specs.Position.{next_position}
use Rattle.line.specs.Frames.{frame_at, frame_in}
use Rattle.theory_effects.specs.Line.{Line, buffer, position, onward, stored}
use Rattle.theory_effects.specs.Standing.{side_by_side}

module _ {A : Type 0} where
  onward_buffer : (before : List A) (here : A) (after : List A) → buffer (onward before here after) ≡ before ++ (here ∷ after)
  unfolding onward
  onward_buffer before here (x ∷ after) = append_assoc before (here ∷ []) (x ∷ after)
  onward_buffer [] here [] = refl
  onward_buffer (x ∷ before) here [] = refl

  onward_position : (before : List A) (here y : A) (after : List A) → next_position (length before) (length (before ++ (here ∷ after))) ≡ position (onward before y after)
  unfolding onward next_position
  onward_position before here y (x ∷ after) =
      let more : length before + 1 < length (before ++ (here ∷ x ∷ after)) = omega (arith, length-append before (here ∷ x ∷ after)) in
      simp lt-ltb (sym (length-append before (y ∷ [])))
  onward_position [] here y [] = refl
  onward_position (x ∷ before) here y [] =
      let last : length ((x ∷ before) ++ (here ∷ [])) ≤ length (x ∷ before) + 1 = omega (arith, length-append (x ∷ before) (here ∷ [])) in
      simp le-ltb

  pub here_read : (l : Line A) (d : A) → get_or (buffer l) (position l) d ≡ l.here
  here_read l d = get_or-append_seam l.before l.here l.after d

  pub here_stored : (y : A) (l : Line A) → set (buffer l) (position l) y ≡ buffer (stored y l)
  here_stored y l = set-append_seam l.before l.here l.after y ∙ sym (onward_buffer l.before y l.after)

  pub position_on : (y : A) (l : Line A) → next_position (position l) (length (buffer l)) ≡ position (stored y l)
  position_on y l = onward_position l.before l.here y l.after

  pub length_stored : (y : A) (l : Line A) → length (buffer (stored y l)) ≡ length (buffer l)
  length_stored y l = ap length (sym (here_stored y l)) ∙ length-set (buffer l) (position l) y

-- ---- a line of frames

pub length_sides : (xs : List Frame) → length (side_by_side xs) ≡ 2 * length xs
unfolding side_by_side
length_sides [] = refl
length_sides (x ∷ xs) = omega (arith, length_sides xs)

sides_append : (xs ys : List Frame) → side_by_side (xs ++ ys) ≡ side_by_side xs ++ side_by_side ys
unfolding side_by_side
sides_append [] ys = refl
sides_append (x ∷ xs) ys = rw (sides_append xs ys)

to_right : (xs : List Frame) (a : Float) → length (side_by_side xs ++ (a ∷ [])) ≡ 2 * length xs + 1
to_right xs a = omega (arith, length-append (side_by_side xs) (a ∷ []), length_sides xs)

module _ (xs : List Frame) (x : Frame) (ys : List Frame) where
  -- a frame's left float comes after the floats of the frames before it, and its right float after that
  at_left : side_by_side (xs ++ (x ∷ ys)) ≡ side_by_side xs ++ (x.left ∷ x.right ∷ side_by_side ys)
  unfolding side_by_side
  at_left = sides_append xs (x ∷ ys)

  at_right : side_by_side (xs ++ (x ∷ ys)) ≡ (side_by_side xs ++ (x.left ∷ [])) ++ (x.right ∷ side_by_side ys)
  at_right = at_left ∙ sym (append_assoc (side_by_side xs) (x.left ∷ []) (x.right ∷ side_by_side ys))

  left_here : get_or (side_by_side (xs ++ (x ∷ ys))) (2 * length xs) nan ≡ x.left
  left_here = rw at_left (get_or_at (side_by_side xs) x.left (x.right ∷ side_by_side ys) nan (2 * length xs) (length_sides xs))

  right_here : get_or (side_by_side (xs ++ (x ∷ ys))) (2 * length xs + 1) nan ≡ x.right
  right_here = rw at_right (get_or_at (side_by_side xs ++ (x.left ∷ [])) x.right (side_by_side ys) nan (2 * length xs + 1) (to_right xs x.left))

module _ (xs ys : List Frame) where
  left_stored : (x : Frame) (a : Float) → set (side_by_side (xs ++ (x ∷ ys))) (2 * length xs) a ≡ side_by_side (xs ++ (record { left = a; right = x.right } ∷ ys))
  left_stored x a = rw (at_left xs x ys, at_left xs (record { left = a; right = x.right }) ys) (set_at (side_by_side xs) x.left (x.right ∷ side_by_side ys) a (2 * length xs) (length_sides xs))

  right_stored : (x : Frame) (a : Float) → set (side_by_side (xs ++ (x ∷ ys))) (2 * length xs + 1) a ≡ side_by_side (xs ++ (record { left = x.left; right = a } ∷ ys))
  right_stored x a = rw (at_right xs x ys, at_right xs (record { left = x.left; right = a }) ys) (set_at (side_by_side xs ++ (x.left ∷ [])) x.right (side_by_side ys) a (2 * length xs + 1) (to_right xs x.left))

pub frame_here : (l : Line Frame) → frame_at (position l) (side_by_side (buffer l)) ≡ l.here
unfolding frame_at
frame_here l = λ i. record { left = left_here l.before l.here l.after i; right = right_here l.before l.here l.after i }

pub frame_stored : (y : Frame) (l : Line Frame) → frame_in (position l) y (side_by_side (buffer l)) ≡ side_by_side (buffer (stored y l))
unfolding frame_in
frame_stored y l =
    ap (λ f. set f (2 * position l + 1) y.right) (left_stored l.before l.after l.here y.left)
    ∙ right_stored l.before l.after (record { left = y.left; right = l.here.right }) y.right
    ∙ ap side_by_side (sym (onward_buffer l.before y l.after))
