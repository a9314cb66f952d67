-- The laws that close the needs of the tests.
use Rattle.std.proofs.Common.{rules}
use Rattle.valid.proofs.Gathers.{
  no_keys,
  keys_start,
  keys_go_on,
  key_too_far,
  keys_fall,
  keys_rise,
}
use Rattle.valid.proofs.Heeds.{
  weighs,
  heard_start,
  heard_goes_on,
  heard_by_shown,
}
use Rattle.valid.proofs.Coded.{code_missing, next_found, all_found}
use Rattle.valid.proofs.Tests.{
  type_high,
  one_type,
  redundant_high,
  both_tested,
  too_many_held,
  types_fail,
  keys_fail,
  heard_fail,
  codes_left,
  few_held,
  all_keys,
  none_passes,
  by_codes,
}

pub ruleset testing = (
  rules,
  no_keys,
  keys_start,
  keys_go_on,
  key_too_far,
  keys_fall,
  keys_rise,
  weighs,
  heard_start,
  heard_goes_on,
  heard_by_shown,
  code_missing,
  next_found,
  all_found,
  type_high,
  one_type,
  redundant_high,
  both_tested,
  too_many_held,
  types_fail,
  keys_fail,
  heard_fail,
  codes_left,
  few_held,
  all_keys,
  none_passes,
  by_codes,
)
