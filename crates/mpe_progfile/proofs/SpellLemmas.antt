-- What was read is spelled by the bytes before.
use Rattle.std.proofs.Common.{ℕ, ◌≡◌, ◌+◌, ◌*◌, ◌/◌, ◌%◌, ◌<◌, List, [], ◌∷◌, ◌++◌, length, suc, Vec, Global, refl, sym, ap, ◌∙◌, arith}
use Rattle.std.specs.Prelude.{map}
use Rattle.std.proofs.lemmas.List.{append_assoc, append-nil}
use Rattle.mpe_progfile.specs.Files.{magic, word_bytes, words_bytes, segment_bytes, segments_bytes, file_of}

-- the halves of a word that two bytes make
pub halves : (high low : ℕ) (rest : List ℕ) → low < 256 → high ∷ low ∷ rest ≡ word_bytes (256 * high + low) ++ rest
halves high low rest l =
    let a : (256 * high + low) / 256 ≡ high = omega (arith, l) in
    let b : (256 * high + low) % 256 ≡ low = omega (arith, l) in
    ap (λ x. x ∷ low ∷ rest) (sym a) ∙ ap (λ y. ((256 * high + low) / 256) ∷ y ∷ rest) (sym b)

words_append : (xs : List ℕ) (w : ℕ) → words_bytes (xs ++ w ∷ []) ≡ words_bytes xs ++ word_bytes w
words_append [] w = refl
words_append (x ∷ xs) w = ap (λ z. word_bytes x ++ z) (words_append xs w)

-- one word more
pub spell_word : (before after last : List ℕ) (xs : List ℕ) (w : ℕ) → before ≡ words_bytes xs ++ after → after ≡ word_bytes w ++ last
    → before ≡ words_bytes (xs ++ w ∷ []) ++ last
spell_word before after last xs w e f =
    e ∙ ap (λ z. words_bytes xs ++ z) f ∙ sym (append_assoc (words_bytes xs) (word_bytes w) last) ∙ ap (λ z. z ++ last) (sym (words_append xs w))

abbrev items_of : List (Vec ℕ Global) → List (List ℕ)
items_of segments = map (λ s. s.items) segments

segments_append : (xs : List (Vec ℕ Global)) (s : Vec ℕ Global) → segments_bytes (items_of (xs ++ s ∷ [])) ≡ segments_bytes (items_of xs) ++ segment_bytes s.items
segments_append [] s = append-nil (segment_bytes s.items)
segments_append (x ∷ xs) s =
    ap (λ z. segment_bytes x.items ++ z) (segments_append xs s) ∙ sym (append_assoc (segment_bytes x.items) (segments_bytes (items_of xs)) (segment_bytes s.items))

-- one segment more
pub spell_segment : (before after last : List ℕ) (xs : List (Vec ℕ Global)) (s : Vec ℕ Global) → before ≡ segments_bytes (items_of xs) ++ after
    → after ≡ segment_bytes s.items ++ last → before ≡ segments_bytes (items_of (xs ++ s ∷ [])) ++ last
spell_segment before after last xs s e f =
    e ∙ ap (λ z. segments_bytes (items_of xs) ++ z) f ∙ sym (append_assoc (segments_bytes (items_of xs)) (segment_bytes s.items) last)
    ∙ ap (λ z. z ++ last) (sym (segments_append xs s))

length_items : (ss : List (Vec ℕ Global)) → length (items_of ss) ≡ length ss
length_items [] = refl
length_items (s ∷ ss) = ap suc (length_items ss)

-- lists one behind the other, grouped to the left
pub grouped : (c d e f g h z : List ℕ)
    → magic ++ (word_bytes 1 ++ (c ++ (d ++ (e ++ (f ++ (g ++ (h ++ z))))))) ≡ (magic ++ word_bytes 1 ++ c ++ d ++ e ++ f ++ g ++ h) ++ z
grouped c d e f g h z =
    sym (append_assoc magic (word_bytes 1) (c ++ (d ++ (e ++ (f ++ (g ++ (h ++ z)))))))
    ∙ sym (append_assoc (magic ++ word_bytes 1) c (d ++ (e ++ (f ++ (g ++ (h ++ z))))))
    ∙ sym (append_assoc (magic ++ word_bytes 1 ++ c) d (e ++ (f ++ (g ++ (h ++ z)))))
    ∙ sym (append_assoc (magic ++ word_bytes 1 ++ c ++ d) e (f ++ (g ++ (h ++ z))))
    ∙ sym (append_assoc (magic ++ word_bytes 1 ++ c ++ d ++ e) f (g ++ (h ++ z)))
    ∙ sym (append_assoc (magic ++ word_bytes 1 ++ c ++ d ++ e ++ f) g (h ++ z))
    ∙ sym (append_assoc (magic ++ word_bytes 1 ++ c ++ d ++ e ++ f ++ g) h z)

-- a whole file, from its parts in order
pub spell_file : (b0 b1 b2 b3 b4 b5 b6 b7 b8 : List ℕ) (count main entry data' : ℕ) (globals : List ℕ) (ss : List (Vec ℕ Global))
    → b0 ≡ magic ++ b1 → b1 ≡ word_bytes 1 ++ b2 → b2 ≡ word_bytes count ++ b3 → b3 ≡ word_bytes main ++ b4 → b4 ≡ word_bytes entry ++ b5
    → b5 ≡ word_bytes data' ++ b6 → b6 ≡ words_bytes globals ++ b7 → b7 ≡ segments_bytes (items_of ss) ++ b8
    → length ss ≡ count → length globals ≡ data'
    → b0 ≡ file_of (items_of ss) main entry globals ++ b8
unfolding file_of
spell_file b0 b1 b2 b3 b4 b5 b6 b7 b8 count main entry data' globals ss e0 e1 e2 e3 e4 e5 e6 e7 n m =
    let long : length (items_of ss) ≡ count = length_items ss ∙ n in
    e0 ∙ ap (λ x. magic ++ x) (e1 ∙ ap (λ x. word_bytes 1 ++ x) (e2 ∙ ap (λ x. word_bytes count ++ x) (e3 ∙ ap (λ x. word_bytes main ++ x)
    (e4 ∙ ap (λ x. word_bytes entry ++ x) (e5 ∙ ap (λ x. word_bytes data' ++ x) (e6 ∙ ap (λ x. words_bytes globals ++ x) e7))))))
    ∙ ap (λ k. magic ++ (word_bytes 1 ++ (word_bytes k ++ (word_bytes main ++ (word_bytes entry ++ (word_bytes data' ++ (words_bytes globals ++ (segments_bytes (items_of ss) ++ b8)))))))) (sym long)
    ∙ ap (λ k. magic ++ (word_bytes 1 ++ (word_bytes (length (items_of ss)) ++ (word_bytes main ++ (word_bytes entry ++ (word_bytes k ++ (words_bytes globals ++ (segments_bytes (items_of ss) ++ b8)))))))) (sym m)
    ∙ grouped (word_bytes (length (items_of ss))) (word_bytes main) (word_bytes entry) (word_bytes (length globals)) (words_bytes globals) (segments_bytes (items_of ss)) b8
