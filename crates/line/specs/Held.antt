-- What code that works on lines is lent: three stretches, of the line store, of the remembered positions and of the
-- remembered floats. Definitions only.
-- A definition hands the front of each stretch to one stage or line, and the rest to the next. So a stage or line can
-- neither read nor change what it is not handed.
use Rattle.std.specs.Prelude.{List, ◌++◌, ℕ, Float, take, drop}
use Rattle.frame.specs.declared.Frame.{Frame}

-- the three stretches
pub record Held : Type 0 where
  pub store : List Float
  pub positions : List ℕ
  pub floats : List Float

-- three stretches as one record
abbrev pub holds : List Float → List ℕ → List Float → Held
holds s p f = record { store = s; positions = p; floats = f }

-- the front: the first `lines` floats of the store, the first p positions and the first f remembered floats
unfoldable pub front : ℕ → ℕ → ℕ → Held → Held
front lines p f h = holds (take lines h.store) (take p h.positions) (take f h.floats)

-- the rest, after that front
unfoldable pub back : ℕ → ℕ → ℕ → Held → Held
back lines p f h = holds (drop lines h.store) (drop p h.positions) (drop f h.floats)

-- two parts together again, the stretches of b after those of a
unfoldable pub joined : Held → Held → Held
joined a b = holds (a.store ++ b.store) (a.positions ++ b.positions) (a.floats ++ b.floats)

-- a frame and the three stretches: what a stage is given, and what it leaves
pub record Ran : Type 0 where
  pub frame : Frame
  pub held : Held

-- the two as one record
abbrev pub ran : Frame → Held → Ran
ran x h = record { frame = x; held = h }
