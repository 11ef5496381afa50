-- Demand 1 is met, as specs/Table.antt states it. Assumes nothing.
use Rattle.std.proofs.Common.{refl, ◌∙◌, arith, length}
use lib.Ieee.{round, of_bits}
use Rattle.float.specs.Literal.{literal}
use Rattle.memories.specs.Memories.{zero_memories}
use Rattle.theory_refusals.proofs.TableHolds.{start_by_the_table, by_the_table}
use Rattle.theory_refusals.proofs.Clears.{start_few}
use Rattle.line_layout.specs.Layout.{needed_of}
use Rattle.fresh_start.proofs.Cleared.{cleared_zero}
use Rattle.fresh_start.proofs.Starting.{started, not_started}
use Rattle.chain.specs.Table.{AnswersTabled, RenderUnchanged, StartsTabled}
use Rattle.chain.proofs.Running.{clear, leaves_is, leaves_not, rendered_not}

pub answers_tabled : AnswersTabled
answers_tabled setup s order = record { answer = by_the_table setup (length s.held.store) s.samples s.held.positions s.progress order; unchanged = leaves_not setup s order; rendered = leaves_is setup s order; all_used = λ t. omega (arith, (clear setup s order t).few) }

pub render_unchanged : RenderUnchanged
render_unchanged = rendered_not

pub starts_tabled : StartsTabled
unfolding zero_memories literal round of_bits
starts_tabled setup store = record { answer = start_by_the_table setup (length store); unchanged = not_started setup store; cleared = λ t. started setup store t ∙ cleared_zero (needed_of setup) store; all_used = λ t. omega (arith, start_few setup (length store) t); positions = refl; floats = refl }
