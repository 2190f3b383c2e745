-- The parts that are read of a file have a right head and well-sized segments.
use Rattle.std.proofs.Common.{ℕ, ◌≡◌, ◌-◌, Bool, true, length, None, ap, subst, arith}
use Rattle.std.specs.Prelude.{Ok, nat_le}
use Rattle.std.proofs.lemmas.Bool.{leb-true, le-leb, lt-ltb}
use Rattle.hp_program.specs.Valid.{bad_segment, is_head}
use Rattle.mpe_progfile.specs.declared.faults.FileFault.{FileFault}
use Rattle.mpe_progfile.specs.declared.faults.FileFault.TheVariants as fault
use Rattle.mpe_progfile.specs.Reading.{Cursor, Parts, word, head_word, is_between, words, segments, magic_read, body, parts}
use Rattle.mpe_progfile.proofs.SizeLemmas.{with_ok, tested_ok, both, all_of, times_length, segments_sized}
use Rattle.mpe_progfile.specs.Reading as read

-- a word of the head passed its test
head_ok : (test : ℕ → Bool) (c : Cursor) (w : ℕ) (next : Cursor) → head_word test c ≡ Ok (w, next) → test w ≡ true
unfolding head_word
head_ok test c w next e =
    let i = with_ok (word c) _ (w, next) e in
    let t = tested_ok (test i.0) (at_fault c) (i.0, i.1) (w, next) i.3 in
    subst (λ (x : ℕ). test x ≡ true) (ap (λ p. p.0) t.1) t.0
  where
    at_fault : Cursor → FileFault
    at_fault c = fault.BadHead c.at

pub record IsRight (p : Parts) : Type 0 where
  pub head : is_head p.segments p.main p.globals ≡ true
  pub sized : bad_segment 0 p.segments ≡ None

body_right : (count main entry : ℕ) (c : Cursor) (x : Parts × Cursor) → is_between 1 62 count ≡ true → is_between 0 (count - 1) main ≡ true
    → body count main entry c ≡ Ok x → IsRight x.0
unfolding body is_head
body_right count main entry c x few inside e =
    let i = with_ok (head_word (is_between 0 32000) c) _ x e in
    let j = with_ok (words i.0 i.1) _ x i.3 in
    let k = with_ok (segments count j.1) _ x j.3 in
    let p : (record { main = main; entry = entry; globals = j.0; segments = k.0 }, k.1) ≡ x = cc in
    let f = both (nat_le 1 count) (nat_le count 62) few in
    let d = both (nat_le 0 main) (nat_le main (count - 1)) inside in
    let g = both (nat_le 0 i.0) (nat_le i.0 32000) (head_ok (is_between 0 32000) c i.0 i.1 i.2) in
    let long : length k.0 ≡ count = times_length read.segment count j.1 (k.0, k.1) k.2 in
    let wide : length j.0 ≡ i.0 = times_length word i.0 i.1 (j.0, j.1) j.2 in
    let l1 = leb-true 1 count f.0 in
    let l2 = leb-true count 62 f.1 in
    let l3 = leb-true main (count - 1) d.1 in
    let l4 = leb-true i.0 32000 g.1 in
    subst (λ (q : Parts). IsRight q) (ap (λ q. q.0) p) (record {
      head = all_of _ _ (all_of _ _ (all_of _ _ (lt-ltb 0 (length k.0) (omega (arith, long, l1))) (le-leb (length k.0) 62 (omega (arith, long, l2))))
          (lt-ltb main (length k.0) (omega (arith, long, l1, l3)))) (le-leb (length j.0) 32000 (omega (arith, wide, l4)));
      sized = segments_sized count 0 j.1 (k.0, k.1) k.2;
    })

pub parts_right : (c : Cursor) (x : Parts × Cursor) → parts c ≡ Ok x → IsRight x.0
unfolding parts
parts_right c x e =
    let m = with_ok (magic_read c) _ x e in
    let v = with_ok (head_word (is_between 1 1) m.1) _ x m.3 in
    let n = with_ok (head_word (is_between 1 62) v.1) _ x v.3 in
    let h = with_ok (head_word (is_between 0 (n.0 - 1)) n.1) _ x n.3 in
    let w = with_ok (word h.1) _ x h.3 in
    body_right n.0 h.0 w.0 w.1 x (head_ok (is_between 1 62) v.1 n.0 n.1 n.2) (head_ok (is_between 0 (n.0 - 1)) n.1 h.0 h.1 h.2) w.3
