-- The reports of a packet: their bytes are among the packet's.
use Prim.Native.Nat.{ℕ}
use mathlib.Core.Path.{◌≡◌}
use mathlib.Core.Bool.{Bool, true, false, cond}
use mathlib.Core.List.Memᴰ
use mathlib.Core.List.{List, [], ◌∷◌, map}
use mathlib.Core.Logic.{⊎_elim}
use lib.Dec.{eqb}
use Rattle.model.specs.declared.Head.{Head}
use Rattle.model.specs.Packet.{payload}
use Rattle.model.specs.Blocks.{Block, blocks}
use Rattle.model.specs.Receive.{Arrival, arrival_in}
use Rattle.model.specs.Redundant.{is_plain, of_type, arrival_of, reports_in}
use Rattle.model.specs.Fits.{BytesFit}
use Rattle.theorems.proofs.Packets.{payload_fits}
use Rattle.theorems.proofs.Blocks.{block_fits}
use Rattle.theorems.proofs.Basics.{Mem, map_mem}

-- a block of a type is one of the blocks
pub of_type_mem : (type : ℕ) (l : List Block) (b : Block) → Mem b (of_type type l) → Mem b l
unfolding of_type
of_type_mem type [] b m = m
of_type_mem type (x ∷ l) b m = go (eqb x.type type) m (of_type_mem type l b)
  where
    go : (c : Bool) → Mem b (cond c (x ∷ of_type type l) (of_type type l)) → (Mem b (of_type type l) → Mem b l) → Mem b (x ∷ l)
    go true m ih = ⊎_elim (λ e. Memᴰ.head e) (λ n. Memᴰ.tail (ih n)) (Memᴰ.cases_cons m)
    go false m ih = Memᴰ.tail (ih m)

pub reports_fit : (h : Head) (bs : List ℕ) → BytesFit bs → (a : Arrival) → Mem a (reports_in h bs) → BytesFit a.payload
unfolding reports_in arrival_in
reports_fit h bs f a m = go (is_plain h bs) m
  where
    of : List Block
    of = of_type h.payload_type (blocks (payload bs))

    go : (b : Bool) → Mem a (cond b (arrival_in bs ∷ []) (map (arrival_of bs) of)) → BytesFit a.payload
    go true m = ⊎_elim (λ (e : a ≡ arrival_in bs). rw e (payload_fits bs f)) (λ n. absurd (Memᴰ.not-nil n)) (Memᴰ.cases_cons m)
    go false m =
        let q = map_mem (arrival_of bs) of a m in
        rw q.2 (block_fits (payload bs) (payload_fits bs f) q.0 (of_type_mem h.payload_type (blocks (payload bs)) q.0 q.1))
