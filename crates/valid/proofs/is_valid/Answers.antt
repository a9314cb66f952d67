use borrow.Author.Rules.{rules}
use Rattle.valid.proofs.Tests.{all_keys}
use Rattle.valid.proofs.is_valid.Goals as goal

pub returns-then-head-eq65535 : goal.returns-then-head-eq65535
returns-then-head-eq65535 c = search (rules, all_keys _ _ c.highest_code.ensures _ c.in-Some.is)
