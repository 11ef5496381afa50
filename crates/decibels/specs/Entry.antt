-- What the private lookup gives. A reader of the public promises can skip this file. Definitions only.
use Rattle.std.specs.Prelude.{List, ℤ, pos, negsuc, Option, None, slice_get}

-- the list's entry at a place, and none at a place off the list
abbrev pub entry_at : {A : Type 0} → List A → ℤ → Option A
entry_at xs (pos k) = slice_get xs k
entry_at xs (negsuc k) = None
