-- The laws that close the needs of the table's functions.
use borrow.Author.Rules.{rules}
use Rattle.table.proofs.Takes.{count_within, place_within, known, full, inserts_within, new}

pub ruleset taking = (rules, count_within, place_within, known, full, inserts_within, new)
