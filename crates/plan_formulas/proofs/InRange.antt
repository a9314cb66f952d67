-- What is known of a plan whose lengths are in range.
use Prim.Native.Nat.{◌≤◌}
use mathlib.Core.Path.{◌≡◌}
use mathlib.Core.Bool.{true}
use borrow.Author.Rules.{rules}
use Rattle.model.specs.declared.Plan.{Plan}
use Rattle.model.specs.Plan.{full_segments, lengths_in_range}
use Rattle.theorems.proofs.Cuts.{full_few}
use Rattle.theorems.proofs.Sends.{length_ranges}

module _ (p : Plan) (h : lengths_in_range p ≡ true) where
  pub some_length : 1 ≤ p.length
  some_length = (length_ranges p h).some

  pub some_size : 1 ≤ p.segment_size
  some_size = (length_ranges p h).wide

  pub size_fits : p.segment_size ≤ 65535
  size_fits = (length_ranges p h).narrow

  pub some_period : 1 ≤ p.period
  some_period = (length_ranges p h).often

  pub period_fits : p.period ≤ 65535
  period_fits = (length_ranges p h).seldom

  -- the segments before the last
  pub few_full : full_segments p ≤ 15
  few_full = full_few p some_size (length_ranges p h).most

pub ruleset in_ranges = (rules, some_length, some_size, size_fits, some_period, period_fits)
