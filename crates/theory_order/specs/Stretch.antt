-- A stretch of a list is some neighbouring elements: how it is taken out, and how others are put in its place.
use Rattle.std.specs.Prelude.{List, ◌++◌, ℕ, length, take, drop}

module _ {A : Type 0} where
  -- the n elements from place a on; fewer where the list ends before
  abbrev pub part : ℕ → ℕ → List A → List A
  part a n xs = take n (drop a xs)

  -- xs with ys in place of as many elements, from place a on
  abbrev pub splice : ℕ → List A → List A → List A
  splice a ys xs = take a xs ++ (ys ++ drop (length ys) (drop a xs))
