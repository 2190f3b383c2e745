-- The first label that leads nowhere, by the first defect of a program.
use Rattle.std.proofs.Common.{ℕ, zero, suc, ◌≡◌, ◌+◌, ◌<◌, ◌≤◌, Bool, true, false, List, [], ◌∷◌, length, Option, Some, None, Vec, Global, refl, sym, ap, ◌∙◌, subst, arith}
use Rattle.std.specs.Prelude.{Err, ◌&&◌, ◌==◌, nat_le, not, if◌then◌else◌, slice_get, map}
use Rattle.std.proofs.lemmas.Bool.{leb-true, ltb-true, lt-leb}
use Rattle.hp_program.specs.declared.program.Defect.{Defect}
use Rattle.hp_program.specs.declared.program.Defect.TheVariants as defect
use Rattle.hp_program.specs.Valid.{is_well_sized, bad_segment, bad_table, is_head, is_local, is_local_entry, entries_of, label_of, first_defect, or_else}
use Rattle.hp_program.specs.hp_instr.Labels.{label}
use Rattle.mpe_progfile.specs.declared.faults.FileFault.TheVariants as fault
use Rattle.mpe_progfile.specs.Reading.{Parts, table_read, labelled}
use Rattle.mpe_progfile.proofs.SizeLemmas.{first_sized}

by_local : (p : Parts) (b : Bool) → (if b then table_read p (bad_table p.segments 0 p.segments) else Err (fault.BadLabel 10))
    ≡ table_read p (if not b then Some defect.Main else bad_table p.segments 0 p.segments)
by_local p true = refl
by_local p false = refl

headed : (p : Parts) (h : Bool) (d rest : Option Defect) → h ≡ true → d ≡ None
    → (if not h then Some defect.Head else or_else d rest) ≡ rest
headed p true None rest e f = refl
headed p true (Some d) rest e f = cc
headed p false d rest e f = cc

-- what is read of the labels of well-sized parts is told by the first defect
pub labels_are : (p : Parts) → is_head p.segments p.main p.globals ≡ true → bad_segment 0 p.segments ≡ None
    → labelled p ≡ table_read p (first_defect p.segments p.main p.entry p.globals)
unfolding labelled first_defect
labels_are p h s =
    by_local p (is_local_entry (slice_get p.segments p.main) p.entry)
    ∙ sym (ap (table_read p) (headed p (is_head p.segments p.main p.globals) (bad_segment 0 p.segments)
    (if not (is_local_entry (slice_get p.segments p.main) p.entry) then Some defect.Main else bad_table p.segments 0 p.segments) h s))

both : (a b : Bool) → (a && b) ≡ true → (a ≡ true) × (b ≡ true)
both true b e = (refl, e)
both false b e = cc

-- what a right head bounds
head_bounds : (ss : List (List ℕ)) (main : ℕ) (globals : List ℕ) → is_head ss main globals ≡ true
    → (length ss ≤ 62) × (main < length ss) × (length globals ≤ 32000)
unfolding is_head
head_bounds ss main globals e =
    let a = both _ _ e in
    let b = both _ _ a.0 in
    let c = both _ _ b.0 in
    (leb-true (length ss) 62 c.1, ltb-true main (length ss) b.1, leb-true (length globals) 32000 a.1)

length_map : {A B : Type 0} (f : A → B) (xs : List A) → length (map f xs) ≡ length xs
length_map f [] = refl
length_map f (x ∷ xs) = ap suc (length_map f xs)

pub head_count : (ss : List (Vec ℕ Global)) (main : ℕ) (globals : List ℕ) → is_head (map (λ s. s.items) ss) main globals ≡ true → length ss ≤ 62
head_count ss main globals e =
    omega (arith, (head_bounds (map (λ s. s.items) ss) main globals e).0, length_map (λ (s : Vec ℕ Global). s.items) ss)

pub head_main : (ss : List (Vec ℕ Global)) (main : ℕ) (globals : List ℕ) → is_head (map (λ s. s.items) ss) main globals ≡ true → main < 62
head_main ss main globals e =
    let b = head_bounds (map (λ s. s.items) ss) main globals e in omega (arith, b.0, b.1)

pub head_globals : (ss : List (Vec ℕ Global)) (main : ℕ) (globals : List ℕ) → is_head (map (λ s. s.items) ss) main globals ≡ true → length globals ≤ 32000
head_globals ss main globals e = (head_bounds (map (λ s. s.items) ss) main globals e).2

-- ---- entries above any table

few_entries : (w : List ℕ) → is_well_sized w ≡ true → entries_of w ≤ 127
unfolding is_well_sized
few_entries w e = let a = both _ _ e in let b = both _ _ a.0 in leb-true (entries_of w) 127 b.1

nth_few : (s : ℕ) (ss : List (List ℕ)) (i : ℕ) (w : List ℕ) → bad_segment s ss ≡ None → slice_get ss i ≡ Some w → entries_of w ≤ 127
nth_few s [] i w b e = cc
nth_few s (v ∷ vs) zero w b e = few_entries w (subst (λ (x : List ℕ). is_well_sized x ≡ true) (same v w e) (first_sized s v vs b).0)
  where
    same : (v w : List ℕ) → Some v ≡ Some w → v ≡ w
    same v w e = cc
nth_few s (v ∷ vs) (suc i) w b e = nth_few (s + 1) vs i w (first_sized s v vs b).1 e

not_so_high : (o : Option (List ℕ)) (n : ℕ) → ((w : List ℕ) → o ≡ Some w → entries_of w ≤ 127) → 255 < n → is_local_entry o n ≡ false
unfolding is_local_entry
not_so_high None n h l = refl
not_so_high (Some w) n h l = by (not (n == 0)) (is_local w (label (label_of w n))) (lt-leb n (entries_of w) (omega (arith, h w refl, l)))
  where
    by : (a b : Bool) → nat_le n (entries_of w) ≡ false → (a && nat_le n (entries_of w) && b) ≡ false
    by true b e = ap (λ (x : Bool). x && b) e
    by false b e = refl

-- an entry above 255 is in no table
pub high_entry : (p : Parts) → bad_segment 0 p.segments ≡ None → 255 < p.entry → labelled p ≡ Err (fault.BadLabel 10)
unfolding labelled
high_entry p b l =
    ap (λ (x : Bool). if x then table_read p (bad_table p.segments 0 p.segments) else Err (fault.BadLabel 10))
    (not_so_high (slice_get p.segments p.main) p.entry (λ w e. nth_few 0 p.segments p.main w b e) l)

pub ruleset labels = (labels_are, head_count, head_main, head_globals, high_entry)
