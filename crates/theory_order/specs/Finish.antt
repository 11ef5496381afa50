-- The order that brings every stage to the last frame, from wherever the block stands: stage 0 as often as it has
-- frames left, then stage 1, and so on.
use Rattle.std.specs.Prelude.{List, [], ◌++◌, ℕ, zero, suc, ◌-◌, get_or, replicate}

-- how many of F frames stage k has not run yet, at progress p
abbrev pub frames_to_go : ℕ → List ℕ → ℕ → ℕ
frames_to_go F p k = F - get_or p k 0

-- this order for the m stages from stage k on
unfoldable pub finishing_from : ℕ → ℕ → ℕ → List ℕ → List ℕ
finishing_from k zero F p = []
finishing_from k (suc m) F p = replicate (frames_to_go F p k) k ++ finishing_from (suc k) m F p

-- this order for all n stages
abbrev pub finishing : (n F : ℕ) → List ℕ → List ℕ
finishing n F p = finishing_from 0 n F p
