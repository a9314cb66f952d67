-- The receiving call: 16, the packet refused whole, and its reports taken, as laws over a head, columns, a packet's bytes and entries.
use Prim.Native.Nat.{ℕ}
use mathlib.Core.Path.{◌≡◌, sym, ◌∙◌, ap}
use mathlib.Core.Bool.{Bool, true, false, not}
use mathlib.Core.List.{List}
use borrow.Author.Rules.{rules}
use borrow.Author.Tests.{not-true, not-false}
use lib.Dec.{eqb}
use lib.ListN.{length}
use Rattle.model.specs.declared.Head.{Head}
use Rattle.model.specs.declared.Table.{Table}
use Rattle.model.specs.declared.BlocksReceived.{BlocksReceived}
use Rattle.model.specs.Table.{table_of, holding, valid}
use Rattle.model.specs.Redundant.{refusal_of_both, whole_refusal, ReceivingBlocks, refusing_whole, receive_redundant}
use Rattle.locating.specs.declared.Located.{Located}
use Rattle.refusals.specs.Refusals.{answered, refused_by}
use Rattle.refusals.proofs.Told.{refused}
use Rattle.locating.specs.Located.{nowhere, located_in, locating, Locates}

pub passed : (t : Table) (b : Bool) → b ≡ valid t → not b ≡ false → valid t ≡ true
passed t b is ok = sym is ∙ not-false b ok

-- a packet refused whole: nothing changes
module _ (h : Head) (keys heard bs entries : List ℕ) where
  abbrev t : Table
  t = table_of h keys heard

  module _ (r : ReceivingBlocks) (n : ℕ) (is : r ≡ refusing_whole n t entries) (a : BlocksReceived)
      (e : a ≡ record { blocks = 0; count = h.count; refusal = n }) where
    answer_is : a ≡ r.answer
    answer_is = e ∙ (λ i. (sym is i).answer)

    table_stays : table_of (holding a.count h) keys heard ≡ r.table
    table_stays = (λ i. table_of (holding (e i).count h) keys heard) ∙ (λ i. (sym is i).table)

    entries_stay : entries ≡ r.entries
    entries_stay = λ i. (sym is i).entries

  -- 16
  module _ (b : Bool) (is : b ≡ valid t) (bad : not b ≡ true) (a : BlocksReceived) (e : a ≡ record { blocks = 0; count = h.count; refusal = 16 }) where
    refused_16 : receive_redundant t bs entries ≡ refusing_whole 16 t entries
    unfolding receive_redundant whole_refusal
    refused_16 = rw (sym is ∙ not-true b bad)

    pub bad_table : a ≡ (receive_redundant t bs entries).answer
    bad_table = answer_is (receive_redundant t bs entries) 16 refused_16 a e

    pub bad_table_stays : table_of (holding a.count h) keys heard ≡ (receive_redundant t bs entries).table
    bad_table_stays = table_stays (receive_redundant t bs entries) 16 refused_16 a e

    pub bad_table_enters_none : entries ≡ (receive_redundant t bs entries).entries
    bad_table_enters_none = entries_stay (receive_redundant t bs entries) 16 refused_16 a e

  module _ (o : Located) (room : ℕ) (lent : room ≡ length entries) where
    pub opens : answered o ≡ locating h bs room → Locates h bs (length entries) o
    opens e = record { is = e ∙ ap (locating h bs) lent }

  -- 1 to 6, 18, 19 and 15
  module _ (b : Bool) (is : b ≡ valid t) (ok : not b ≡ false) (k room : ℕ) (lent : room ≡ length entries) (e : refused_by k nowhere ≡ locating h bs room)
      (a : BlocksReceived) (x : a ≡ record { blocks = 0; count = h.count; refusal = k }) where
    its_number : (k ≡ refusal_of_both h bs (length entries)) × (eqb (refusal_of_both h bs (length entries)) 0 ≡ false)
    unfolding locating
    its_number = refused (refusal_of_both h bs (length entries)) nowhere (located_in h bs) k (e ∙ ap (locating h bs) lent)

    refused_whole : receive_redundant t bs entries ≡ refusing_whole k t entries
    unfolding receive_redundant whole_refusal
    refused_whole = let v : valid t ≡ true = passed t b is ok in rw (v, its_number.0, its_number.1)

    pub whole_refused : a ≡ (receive_redundant t bs entries).answer
    whole_refused = answer_is (receive_redundant t bs entries) k refused_whole a x

    pub whole_stays : table_of (holding a.count h) keys heard ≡ (receive_redundant t bs entries).table
    whole_stays = table_stays (receive_redundant t bs entries) k refused_whole a x

    pub whole_enters_none : entries ≡ (receive_redundant t bs entries).entries
    whole_enters_none = entries_stay (receive_redundant t bs entries) k refused_whole a x

pub ruleset ways = (
  rules,
  passed,
  bad_table,
  bad_table_stays,
  bad_table_enters_none,
  opens,
  whole_refused,
  whole_stays,
  whole_enters_none,
)
