-- What a reverb leaves, and each line of it, is as long as what it had, whatever that was. Assumes nothing.
use Rattle.std.proofs.Common.{refl, List, [], ◌∷◌, ℕ, Float, length-set}
use Rattle.line.specs.AllPass.{pass_line_of}
use Rattle.line.specs.Comb.{comb_line_of}
use Rattle.line.specs.Held.{Held}
use Rattle.line.proofs.Keeps.{Same, Keeps, same_refl, joined_keeps, cond_keeps}
use Rattle.reverb.specs.Reverb.{Heard, comb_of, pass_of, lines_in_turn, side_of, reverbed, reverb_of}
use Rattle.reverb.proofs.Levels.{sides, fits, side_is, reverbed_is, reverb_is}

comb_keeps : (feedback damping x sum : Float) (h : Held) → Same (comb_of feedback damping x sum h).held h
unfolding comb_of comb_line_of
comb_keeps feedback damping x sum h = record { store = simp length-set; positions = simp length-set; floats = simp length-set }

pass_keeps : (x : Float) (h : Held) → Same (pass_of x h).held h
unfolding pass_of pass_line_of
pass_keeps x h = record { store = simp length-set; positions = simp length-set; floats = refl }

module _ (f : ℕ) (step next : Float → Held → Heard) (step_Keeps : (x : Float) (h : Held) → Same (step x h).held h) (next_keeps : (x : Float) (h : Held) → Same (next x h).held h) where
  lines_keep : (lines : List ℕ) (x : Float) (h : Held) → Same (lines_in_turn f step next lines x h).held h
  unfolding lines_in_turn
  lines_keep [] x h = next_keeps x h
  lines_keep (n ∷ ns) x h = joined_keeps n 1 f _ _ h (step_Keeps x _) (lines_keep ns _ _)

pub side_keeps : (lines : List ℕ) (feedback damping x : Float) (h : Held) → Same (side_of lines feedback damping x h).held h
side_keeps lines feedback damping x h = rw side_is (lines_keep 1 _ _ (comb_keeps feedback damping x) (lines_keep 0 _ _ pass_keeps (λ _. same_refl) _) _ _ h)

module _ (rate : ℕ) (feedback damping width mix : Float) where
  reverbed_keeps : Keeps (reverbed rate feedback damping width mix)
  unfolding sides
  reverbed_keeps r = rw reverbed_is (joined_keeps _ 12 8 _ _ r.held (side_keeps _ feedback damping _ _) (side_keeps _ feedback damping _ _))

  pub reverb_keeps : Keeps (reverb_of rate feedback damping width mix)
  reverb_keeps r = rw reverb_is (cond_keeps (fits rate r.held) _ r r.held (reverbed_keeps r) (same_refl r.held))
