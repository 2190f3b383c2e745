-- What was read of a file is well sized.
use Rattle.std.proofs.Common.{ℕ, zero, suc, ◌≡◌, ◌+◌, ◌-◌, ◌<◌, ◌≤◌, Bool, true, false, List, [], ◌∷◌, length, Some, None, refl, sym, ap, ◌∙◌, subst, arith}
use Rattle.std.specs.Prelude.{Result, Ok, Err, ◌&&◌, nat_le, if◌then◌else◌, get_or}
use Rattle.std.proofs.lemmas.Bool.{leb-true}
use Rattle.hp_program.specs.declared.program.Defect.TheVariants as defect
use Rattle.hp_program.specs.Valid.{is_well_sized, bad_segment, entries_of}
use Rattle.mpe_progfile.specs.declared.faults.FileFault.{FileFault}
use Rattle.mpe_progfile.specs.declared.faults.FileFault.TheVariants as fault
use Rattle.mpe_progfile.specs.Reading.{Cursor, word, with_read, tested, times, is_size, has_table, words, segment, segments}

-- ---- what was read was read in parts

pub with_ok : {A B : Type 0} (r : Result (A × Cursor) FileFault) (go : A → Cursor → Result (B × Cursor) FileFault) (x : B × Cursor)
    → with_read r go ≡ Ok x → (a : A) × (next : Cursor) × (r ≡ Ok (a, next)) × (go a next ≡ Ok x)
unfolding with_read
with_ok (Ok r) go x e = (r.0, r.1, refl, e)
with_ok (Err f) go x e = cc

pub tested_ok : {A : Type 0} (b : Bool) (f : FileFault) (a x : A) → tested b f a ≡ Ok x → (b ≡ true) × (a ≡ x)
unfolding tested
tested_ok true f a x e = (refl, cc)
tested_ok false f a x e = cc

pub both : (a b : Bool) → (a && b) ≡ true → (a ≡ true) × (b ≡ true)
both true b e = (refl, e)
both false b e = cc

pub all_of : (a b : Bool) → a ≡ true → b ≡ true → (a && b) ≡ true
all_of true b e f = f
all_of false b e f = cc

-- as many as were asked for
pub times_length : {A : Type 0} (read : Cursor → Result (A × Cursor) FileFault) (n : ℕ) (c : Cursor) (x : List A × Cursor) → times read n c ≡ Ok x
    → length x.0 ≡ n
unfolding times
times_length read zero c x e = let p : ([], c) ≡ x = cc in ap (λ y. length y.0) (sym p)
times_length read (suc n) c x e =
    let i = with_ok (read c) _ x e in
    let j = with_ok (times read n i.1) _ x i.3 in
    let p : (i.0 ∷ j.0, j.1) ≡ x = cc in
    ap (λ y. length y.0) (sym p) ∙ ap suc (times_length read n i.1 (j.0, j.1) j.2)

-- ---- segments

-- a segment that was read is well sized
segment_sized : (c : Cursor) (x : List ℕ × Cursor) → segment c ≡ Ok x → is_well_sized x.0 ≡ true
unfolding segment is_well_sized
segment_sized c x e =
    let i = with_ok (word c) _ x e in
    let j = with_ok (tested (is_size i.0) (fault_at c) (i.0, i.1)) _ x i.3 in
    let t = tested_ok (is_size i.0) (fault_at c) (i.0, i.1) (j.0, j.1) j.2 in
    let k = with_ok (words j.0 j.1) _ x j.3 in
    let u = tested_ok (has_table k.0) (table_fault k.1) (k.0, k.1) x k.3 in
    let same : i.0 ≡ j.0 = ap (λ p. p.0) t.1 in
    let long : length k.0 ≡ j.0 = times_length word j.0 j.1 (k.0, k.1) k.2 in
    let size : is_size (length k.0) ≡ true = ap is_size (long ∙ sym same) ∙ t.0 in
    let s = both (nat_le 2 (length k.0)) (nat_le (length k.0) 16383) size in
    let h = both (nat_le (entries_of k.0) 127) (nat_le (entries_of k.0) (length k.0 - 1)) u.0 in
    subst (λ (ws : List ℕ). is_well_sized ws ≡ true) (ap (λ p. p.0) u.1)
    (all_of _ _ (all_of _ _ (all_of _ _ s.0 s.1) h.0) h.1)
  where
    fault_at : Cursor → FileFault
    fault_at c = fault.BadSegment c.at

    table_fault : Cursor → FileFault
    table_fault c = fault.BadSegment (c.at - 2)

one_sized : (s : ℕ) (w : List ℕ) (ws : List (List ℕ)) → is_well_sized w ≡ true → bad_segment (s + 1) ws ≡ None → bad_segment s (w ∷ ws) ≡ None
unfolding bad_segment
one_sized s w ws t e = ap (λ (b : Bool). if b then bad_segment (s + 1) ws else Some (defect.Segment s)) t ∙ e

-- and so are all
pub segments_sized : (n s : ℕ) (c : Cursor) (x : List (List ℕ) × Cursor) → segments n c ≡ Ok x → bad_segment s x.0 ≡ None
unfolding times bad_segment
segments_sized zero s c x e = let p : ([], c) ≡ x = cc in ap (λ y. bad_segment s y.0) (sym p)
segments_sized (suc n) s c x e =
    let i = with_ok (segment c) _ x e in
    let j = with_ok (times segment n i.1) _ x i.3 in
    let p : (i.0 ∷ j.0, j.1) ≡ x = cc in
    ap (λ y. bad_segment s y.0) (sym p)
    ∙ one_sized s i.0 j.0 (segment_sized c (i.0, i.1) i.2) (segments_sized n (s + 1) i.1 (j.0, j.1) j.2)

-- segments that are well sized have at most 16,383 words
pub first_sized : (s : ℕ) (w : List ℕ) (ws : List (List ℕ)) → bad_segment s (w ∷ ws) ≡ None → (is_well_sized w ≡ true) × (bad_segment (s + 1) ws ≡ None)
unfolding bad_segment
first_sized s w ws e = by s ws (is_well_sized w) refl e
  where
    by : (s : ℕ) (ws : List (List ℕ)) (b : Bool) → is_well_sized w ≡ b → (if b then bad_segment (s + 1) ws else Some (defect.Segment s)) ≡ None
        → (is_well_sized w ≡ true) × (bad_segment (s + 1) ws ≡ None)
    by s ws true t e = (t, e)
    by s ws false t e = cc

short : (w : List ℕ) → is_well_sized w ≡ true → length w ≤ 16383
unfolding is_well_sized
short w e =
    let a = both _ _ e in
    let b = both _ _ a.0 in
    let c = both _ _ b.0 in
    leb-true (length w) 16383 c.1

pub nth_short : (s : ℕ) (ws : List (List ℕ)) (i : ℕ) (d : List ℕ) → bad_segment s ws ≡ None → i < length ws → length (get_or ws i d) ≤ 16383
nth_short s [] i d e l = absurd (omega (arith, l))
nth_short s (w ∷ ws) zero d e l = short w (first_sized s w ws e).0
nth_short s (w ∷ ws) (suc i) d e l = nth_short (s + 1) ws i d (first_sized s w ws e).1 (omega (arith, l))
