-- Each public function's promise admits one outcome. What a function is lent by `&` it cannot change, so there too a caller sees the result and nothing else. Assumes nothing.
use Rattle.std.proofs.Common.{sym, ◌∙◌}
use Rattle.float.proofs.Outcome.{Single}
use Rattle.order_entries.proofs.number as number
use Rattle.order_entries.proofs.Rule.number as rule-number
use Rattle.order_entries.proofs.may_run as may-run
use Rattle.order_entries.proofs.check_order as check-order

pub number_single : Single number.Reads.Post
number_single κs a r r' s s' p q = p ∙ sym q

pub may_run_single : Single may-run.Reads.Post
may_run_single κs a r r' s s' p q = p ∙ sym q

pub check_order_single : Single check-order.Reads.Post
check_order_single κs a r r' s s' p q = p ∙ sym q

pub rule_number_single : Single rule-number.Reads.Post
rule_number_single κs a r r' s s' p q = p ∙ sym q
