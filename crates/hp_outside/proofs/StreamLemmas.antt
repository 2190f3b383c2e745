-- What a loop over a stream carries on: two pieces taken, or written, one after the other are one piece.
use Rattle.std.proofs.Common.{◌≡◌, ℕ, ◌+◌, List, ◌++◌, take, drop, Option, Some, None, ◌≤◌, length, refl, append_assoc}
use Rattle.std.specs.Io.KnownBytes.{Appends, Consumes}
use Rattle.std.proofs.lemmas.List.{length-take-le, take_at, drop-drop, take-append-drop}
use Rattle.std.proofs.Math.Seq.{take-add}
use Rattle.hp_outside.specs.Whole.{LeavesRest}

-- written: the first `at` bytes and then the first `count` of the rest are the first `at + count` bytes
pub Appends-Appends : (old mid new : Option (List ℕ)) (at count : ℕ) (bs rest : List ℕ) → rest ≡ drop at bs →
    Appends old mid (take at bs) → Appends mid new (take count rest) → Appends old new (take (at + count) bs)
Appends-Appends None _ _ at count bs rest e a b = tt
Appends-Appends (Some x) (Some y) (Some z) at count bs rest e a b =
    rw (take-add at count bs, ← append_assoc, ← a, ← e) b
Appends-Appends (Some x) (Some y) None at count bs rest e a b = b
Appends-Appends (Some x) None _ at count bs rest e a b = absurd a

-- taken: what came first and what came next are what came
pub Consumes-Consumes : (old mid new : Option (List ℕ)) (first next : List ℕ) →
    Consumes old mid first → Consumes mid new next → LeavesRest old new
Consumes-Consumes None _ _ first next a b = (first, tt)
Consumes-Consumes (Some x) (Some y) (Some z) first next a b =
    (first ++ next, rw (append_assoc, ← b) a)
Consumes-Consumes (Some x) (Some y) None first next a b = absurd b
Consumes-Consumes (Some x) None _ first next a b = absurd a

-- bytes copied from a place on to the front of a room: they and what follows them are what was there from that place on
pub copied_from : (at count : ℕ) (bs copied behind : List ℕ) → copied ≡ take count (drop at bs) →
    count ≤ length (drop at bs) → drop at bs ≡ take count (copied ++ behind) ++ drop (at + count) bs
copied_from at count bs copied behind e h =
    let long : length copied ≡ count = rw e (length-take-le count (drop at bs) h) in
    rw (take_at copied behind count long, e, ← drop-drop count at bs, take-append-drop count (drop at bs)) refl
