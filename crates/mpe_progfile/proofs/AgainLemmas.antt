-- What is written is read again.
use Rattle.std.proofs.Common.{ℕ, suc, ◌≡◌, ◌+◌, ◌-◌, ◌*◌, ◌/◌, ◌%◌, ◌≤◌, Bool, true, List, [], ◌∷◌, ◌++◌, length, None, refl, sym, ap, ◌∙◌, arith}
use Rattle.std.specs.Prelude.{Result, Ok}
use Rattle.std.proofs.lemmas.Bool.{leb-true, le-leb, ltb-true}
use Rattle.std.proofs.lemmas.List.{append_assoc}
use Rattle.hp_program.specs.Valid.{is_well_sized, bad_segment, is_head}
use Rattle.mpe_progfile.specs.declared.faults.FileFault.{FileFault}
use Rattle.mpe_progfile.specs.declared.faults.FileFault.TheVariants as fault
use Rattle.mpe_progfile.specs.Files.{magic, word_bytes, words_bytes, segment_bytes, segments_bytes, file_of}
use Rattle.mpe_progfile.specs.Reading.{Cursor, Parts, word, with_read, tested, times, is_size, is_between, has_table, words, segment, segments, head_word, magic_read, body, parts}
use Rattle.mpe_progfile.proofs.SizeLemmas.{both, all_of, first_sized}
use Rattle.mpe_progfile.proofs.SpellLemmas.{grouped}

at_place : ℕ → List ℕ → Cursor
at_place at left = record { at = at; left = left }

-- a step of reading whose result is known
go : {A B : Type 0} (r : Result (A × Cursor) FileFault) (f : A → Cursor → Result (B × Cursor) FileFault) (a : A) (next : Cursor) → r ≡ Ok (a, next)
    → with_read r f ≡ f a next
unfolding with_read
go r f a next e = ap (λ x. with_read x f) e

pass : {A : Type 0} (b : Bool) (f : FileFault) (a : A) → b ≡ true → tested b f a ≡ Ok a
unfolding tested
pass b f a e = ap (λ x. tested x f a) e

word_again : (w at : ℕ) (rest : List ℕ) → word (record { at = at; left = word_bytes w ++ rest }) ≡ Ok (w, record { at = at + 2; left = rest })
unfolding word
word_again w at rest =
    let e : 256 * (w / 256) + w % 256 ≡ w = omega arith in ap (λ x. Ok (x, record { at = at + 2; left = rest })) e

words_again : (ws : List ℕ) (at : ℕ) (rest : List ℕ)
    → times word (length ws) (record { at = at; left = words_bytes ws ++ rest }) ≡ Ok (ws, record { at = at + 2 * length ws; left = rest })
unfolding times with_read
words_again [] at rest = let e : at ≡ at + 2 * 0 = omega arith in ap (λ x. Ok ([], record { at = x; left = rest })) e
words_again (w ∷ ws) at rest =
    let e : (at + 2) + 2 * length ws ≡ at + 2 * suc (length ws) = omega arith in
    ap (λ l. with_read (word (record { at = at; left = l })) (λ a next. with_read (times word (length ws) next) (λ as' last. Ok (a ∷ as', last))))
    (append_assoc (word_bytes w) (words_bytes ws) rest)
    ∙ ap (λ r. with_read r (λ a next. with_read (times word (length ws) next) (λ as' last. Ok (a ∷ as', last)))) (word_again w at (words_bytes ws ++ rest))
    ∙ ap (λ r. with_read r (λ as' last. Ok (w ∷ as', last))) (words_again ws (at + 2) rest)
    ∙ ap (λ x. Ok (w ∷ ws, record { at = x; left = rest })) e

segment_again : (ws : List ℕ) (at : ℕ) (rest : List ℕ) → is_well_sized ws ≡ true
    → segment (record { at = at; left = segment_bytes ws ++ rest }) ≡ Ok (ws, record { at = at + 2 + 2 * length ws; left = rest })
unfolding segment is_well_sized
segment_again ws at rest s =
    let a = both _ _ s in
    let b = both _ _ a.0 in
    let size : is_size (length ws) ≡ true = b.0 in
    let table : has_table ws ≡ true = all_of _ _ b.1 a.1 in
    ap (λ l. with_read (word (record { at = at; left = l })) (sized at))
    (append_assoc (word_bytes (length ws)) (words_bytes ws) rest)
    ∙ go (word (record { at = at; left = word_bytes (length ws) ++ (words_bytes ws ++ rest) })) (sized at) (length ws) (record { at = at + 2; left = words_bytes ws ++ rest })
    (word_again (length ws) at (words_bytes ws ++ rest))
    ∙ go (tested (is_size (length ws)) (fault.BadSegment at) (length ws, record { at = at + 2; left = words_bytes ws ++ rest })) filled (length ws)
    (record { at = at + 2; left = words_bytes ws ++ rest }) (pass (is_size (length ws)) (fault.BadSegment at) _ size)
    ∙ go (words (length ws) (record { at = at + 2; left = words_bytes ws ++ rest })) tabled ws (record { at = at + 2 + 2 * length ws; left = rest })
    (words_again ws (at + 2) rest)
    ∙ pass (has_table ws) (fault.BadSegment (at + 2 + 2 * length ws - 2)) _ table
  where
    tabled : List ℕ → Cursor → Result (List ℕ × Cursor) FileFault
    tabled ws last = tested (has_table ws) (fault.BadSegment (last.at - 2)) (ws, last)

    filled : ℕ → Cursor → Result (List ℕ × Cursor) FileFault
    filled size next = with_read (words size next) (λ ws last. tested (has_table ws) (fault.BadSegment (last.at - 2)) (ws, last))

    sized : ℕ → ℕ → Cursor → Result (List ℕ × Cursor) FileFault
    sized at size next = with_read (tested (is_size size) (fault.BadSegment at) (size, next)) (λ size next.
        with_read (words size next) (λ ws last. tested (has_table ws) (fault.BadSegment (last.at - 2)) (ws, last)))

-- the bytes of segments
pub span : List (List ℕ) → ℕ
span [] = 0
span (s ∷ ss) = 2 + 2 * length s + span ss

segments_again : (s : ℕ) (ss : List (List ℕ)) (at : ℕ) (rest : List ℕ) → bad_segment s ss ≡ None
    → segments (length ss) (record { at = at; left = segments_bytes ss ++ rest }) ≡ Ok (ss, record { at = at + span ss; left = rest })
unfolding times with_read span
segments_again s [] at rest b = let e : at ≡ at + 0 = omega arith in ap (λ x. Ok ([], record { at = x; left = rest })) e
segments_again s (w ∷ ws) at rest b =
    let f = first_sized s w ws b in
    let e : (at + 2 + 2 * length w) + span ws ≡ at + (2 + 2 * length w + span ws) = omega arith in
    ap (λ l. with_read (segment (record { at = at; left = l })) (λ a next. with_read (segments (length ws) next) (λ as' last. Ok (a ∷ as', last))))
    (append_assoc (segment_bytes w) (segments_bytes ws) rest)
    ∙ ap (λ r. with_read r (λ a next. with_read (segments (length ws) next) (λ as' last. Ok (a ∷ as', last)))) (segment_again w at (segments_bytes ws ++ rest) f.0)
    ∙ ap (λ r. with_read r (λ as' last. Ok (w ∷ as', last))) (segments_again (s + 1) ws (at + 2 + 2 * length w) rest f.1)
    ∙ ap (λ x. Ok (w ∷ ws, record { at = x; left = rest })) e

-- ---- the head

head_again : (test : ℕ → Bool) (w at : ℕ) (rest : List ℕ) → test w ≡ true
    → head_word test (record { at = at; left = word_bytes w ++ rest }) ≡ Ok (w, record { at = at + 2; left = rest })
unfolding head_word with_read
head_again test w at rest t =
    ap (λ r. with_read r (λ w next. tested (test w) (fault.BadHead at) (w, next))) (word_again w at rest)
    ∙ pass (test w) (fault.BadHead at) (w, record { at = at + 2; left = rest }) t

between : (low high w : ℕ) → low ≤ w → w ≤ high → is_between low high w ≡ true
between low high w l m = all_of _ _ (le-leb low w l) (le-leb w high m)

-- ---- a whole file

-- the parts that were written
abbrev pub parts_written : List (List ℕ) → ℕ → ℕ → List ℕ → Parts
parts_written ss main entry globals = record { main = main; entry = entry; globals = globals; segments = ss }

body_again : (ss : List (List ℕ)) (main entry : ℕ) (globals : List ℕ) (at : ℕ) (rest : List ℕ) → length globals ≤ 32000 → bad_segment 0 ss ≡ None
    → body (length ss) main entry (record { at = at; left = word_bytes (length globals) ++ (words_bytes globals ++ (segments_bytes ss ++ rest)) })
    ≡ Ok (parts_written ss main entry globals, record { at = at + 2 + 2 * length globals + span ss; left = rest })
unfolding body with_read
body_again ss main entry globals at rest few sized =
    ap (λ r. with_read r (counted ss main entry)) (head_again (is_between 0 32000) (length globals) at (words_bytes globals ++ (segments_bytes ss ++ rest))
    (between 0 32000 (length globals) (omega arith) few))
    ∙ ap (λ r. with_read r (filled ss main entry)) (words_again globals (at + 2) (segments_bytes ss ++ rest))
    ∙ ap (λ r. with_read r (λ ss last. Ok (parts_written ss main entry globals, last))) (segments_again 0 ss (at + 2 + 2 * length globals) rest sized)
  where
    filled : List (List ℕ) → ℕ → ℕ → List ℕ → Cursor → Result (Parts × Cursor) FileFault
    filled ss main entry globals next = with_read (segments (length ss) next) (λ ss last. Ok (parts_written ss main entry globals, last))

    counted : List (List ℕ) → ℕ → ℕ → ℕ → Cursor → Result (Parts × Cursor) FileFault
    counted ss main entry count next = with_read (words count next) (filled ss main entry)

abbrev behind_entry : ℕ → ℕ → ℕ → Cursor → Result (Parts × Cursor) FileFault
behind_entry count main entry next = body count main entry next

abbrev behind_main : ℕ → ℕ → Cursor → Result (Parts × Cursor) FileFault
behind_main count main next = with_read (word next) (λ entry next. behind_entry count main entry next)

abbrev behind_count : ℕ → Cursor → Result (Parts × Cursor) FileFault
behind_count count next = with_read (head_word (is_between 0 (count - 1)) next) (λ main next. behind_main count main next)

abbrev behind_version : ℕ → Cursor → Result (Parts × Cursor) FileFault
behind_version v next = with_read (head_word (is_between 1 62) next) (λ count next. behind_count count next)

abbrev behind_magic : Bool → Cursor → Result (Parts × Cursor) FileFault
behind_magic is next = with_read (head_word (is_between 1 1) next) (λ v next. behind_version v next)

head_read : (b : List ℕ) → magic_read (record { at = 0; left = magic ++ b }) ≡ Ok (true, record { at = 4; left = b })
unfolding magic_read with_read tested
head_read b = refl

-- a file is read as what was written, and what stands behind it is left
pub parts_again : (ss : List (List ℕ)) (main entry : ℕ) (globals rest : List ℕ) → is_head ss main globals ≡ true → bad_segment 0 ss ≡ None
    → parts (record { at = 0; left = file_of ss main entry globals ++ rest })
    ≡ Ok (parts_written ss main entry globals, record { at = 14 + 2 * length globals + span ss; left = rest })
unfolding parts file_of is_head
parts_again ss main entry globals rest h sized =
    let a = both _ _ h in
    let b = both _ _ a.0 in
    let c = both _ _ b.0 in
    let some = ltb-true 0 (length ss) c.0 in
    let few = leb-true (length ss) 62 c.1 in
    let inside = ltb-true main (length ss) b.1 in
    let short = leb-true (length globals) 32000 a.1 in
    let b5 = word_bytes (length globals) ++ (words_bytes globals ++ (segments_bytes ss ++ rest)) in
    let b4 = word_bytes entry ++ b5 in
    let b3 = word_bytes main ++ b4 in
    let b2 = word_bytes (length ss) ++ b3 in
    ap (λ l. with_read (magic_read (record { at = 0; left = l })) behind_magic)
    (sym (grouped (word_bytes (length ss)) (word_bytes main) (word_bytes entry) (word_bytes (length globals)) (words_bytes globals) (segments_bytes ss) rest))
    ∙ go (magic_read (record { at = 0; left = magic ++ (word_bytes 1 ++ b2) })) behind_magic true (record { at = 4; left = word_bytes 1 ++ b2 }) (head_read (word_bytes 1 ++ b2))
    ∙ go (head_word (is_between 1 1) (record { at = 4; left = word_bytes 1 ++ b2 })) behind_version 1 (record { at = 6; left = b2 })
    (head_again (is_between 1 1) 1 4 b2 (between 1 1 1 (omega arith) (omega arith)))
    ∙ go (head_word (is_between 1 62) (record { at = 6; left = b2 })) behind_count (length ss) (record { at = 8; left = b3 })
    (head_again (is_between 1 62) (length ss) 6 b3 (between 1 62 (length ss) (omega (arith, some)) few))
    ∙ go (head_word (is_between 0 (length ss - 1)) (record { at = 8; left = b3 })) (behind_main (length ss)) main (record { at = 10; left = b4 })
    (head_again (is_between 0 (length ss - 1)) main 8 b4 (between 0 (length ss - 1) main (omega arith) (omega (arith, inside))))
    ∙ go (word (record { at = 10; left = b4 })) (behind_entry (length ss) main) entry (record { at = 12; left = b5 }) (word_again entry 10 b5)
    ∙ body_again ss main entry globals 12 rest short sized
