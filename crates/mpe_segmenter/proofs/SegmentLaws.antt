-- What the words of a segment hold: each module's words lie where its base is, and each entry's label is in the table.
use Rattle.std.proofs.Common.{◌≡◌, ℕ, zero, suc, ◌+◌, ◌-◌, ◌<◌, ◌≤◌, Bool, List, [], ◌∷◌, ◌++◌, length, get_or, reverse, Option, Some, slice_get, refl, sym, ap, subst, ◌∙◌, arith, add-zero, zero-add, append_assoc}
use Rattle.std.proofs.lemmas.List.{length-append, length-reverse, get_or-append-add, get_or_append_left, get_or-reverse}
use Rattle.hp_program.specs.Valid.{entries_of, label_of}
use Rattle.spl_branch.specs.declared.modules.Fix.{Fix}
use Rattle.spl_branch.specs.declared.modules.Module.{Module}
use Rattle.spl_branch.specs.Modules.{fix_at, put_in, LiesAt}
use Rattle.mpe_segmenter.specs.Entries.{Wanted, own_count, owned}
use Rattle.mpe_segmenter.specs.Segments.{table_words, laid_from, entries_for, body_from}
use Rattle.mpe_segmenter.specs.Counts.{sizes}
use Rattle.mpe_segmenter.proofs.LaidLemmas.{length-laid_from}

pub get_behind : {A : Type 0} (xs ys : List A) (j : ℕ) → slice_get (xs ++ ys) (length xs + j) ≡ slice_get ys j
get_behind [] ys j = ap (slice_get ys) (zero-add j)
get_behind (x ∷ xs) ys j = ap (slice_get (x ∷ (xs ++ ys))) (along (length xs) j) ∙ get_behind xs ys j where
  along : (n j : ℕ) → suc n + j ≡ suc (n + j)
  along n j = omega arith

laid_get : (ws post : List ℕ) (base : ℕ) (entries : Bool → ℕ → ℕ) (fs : List Fix) (k j w : ℕ) → slice_get ws j ≡ Some w → slice_get (laid_from base entries fs k ws ++ post) j ≡ Some (put_in base entries (fix_at fs (k + j)) w)
laid_get [] post base entries fs k j w h = cc
laid_get (v ∷ ws) post base entries fs k zero w h = ap (λ (o : Option ℕ). o) (ap (λ i. Some (put_in base entries (fix_at fs i) v)) (sym (add-zero k))) ∙ ap Some (ap (put_in base entries (fix_at fs (k + 0))) (some_is v w h)) where
  some_is : (v w : ℕ) → Some v ≡ Some w → v ≡ w
  some_is v w h = cc
laid_get (v ∷ ws) post base entries fs k (suc j) w h = laid_get ws post base entries fs (k + 1) j w h ∙ ap (λ i. Some (put_in base entries (fix_at fs i) w)) (omega arith)

-- a module's words lie where its base is
pub lies_between : (pre ws post : List ℕ) (base : ℕ) (entries : Bool → ℕ → ℕ) (fs : List Fix) → base ≡ length pre → LiesAt (pre ++ (laid_from base entries fs 0 ws ++ post)) base entries ws fs
lies_between pre ws post base entries fs e = record {
  within = omega (arith, e, length-append pre (laid_from base entries fs 0 ws ++ post), length-append (laid_from base entries fs 0 ws) post, length-laid_from ws base entries fs 0);
  word = λ k w h.
      ap (λ b. slice_get (pre ++ (laid_from base entries fs 0 ws ++ post)) (b + k)) e
      ∙ get_behind pre (laid_from base entries fs 0 ws ++ post) k
      ∙ laid_get ws post base entries fs 0 k w h
      ∙ ap (λ i. Some (put_in base entries (fix_at fs i) w)) (omega arith);
}

-- each module's size is the number of its words
abbrev pub AllSized : List Module → Type 0
AllSized [] = Unit {0}
AllSized (m ∷ ms) = (m.size ≡ length m.words.items) × AllSized ms

pub length-body : (ms : List Module) (t : Wanted → ℕ) (base first : ℕ) → AllSized ms → length (body_from t base first ms) ≡ sizes ms
length-body [] t base first a = refl
length-body (m ∷ ms) t base first a = omega (arith, length-append (laid_from base (entries_for t first m) m.fixes.items 0 m.words.items) (body_from t (base + m.size) (first + own_count m) ms), length-laid_from m.words.items base (entries_for t first m) m.fixes.items 0, length-body ms t (base + m.size) (first + own_count m) a.1, a.0)

-- each module of a segment lies behind those before it, its defines' entries behind theirs
pub module_lies : (front : List Module) (m : Module) (back : List Module) (t : Wanted → ℕ) (base first : ℕ) (pre post : List ℕ) → AllSized front → base ≡ length pre
    → LiesAt (pre ++ (body_from t base first (front ++ m ∷ back) ++ post)) (base + sizes front) (entries_for t (first + owned front) m) m.words.items m.fixes.items
module_lies [] m back t base first pre post a e =
    let P : List ℕ → ℕ → ℕ → Type 0 = λ segment b f. LiesAt segment b (entries_for t f m) m.words.items m.fixes.items in
    let laid : List ℕ = laid_from base (entries_for t first m) m.fixes.items 0 m.words.items in
    let rest : List ℕ = body_from t (base + m.size) (first + own_count m) back in
    subst (λ f. P (pre ++ ((laid ++ rest) ++ post)) (base + 0) f) (sym (add-zero first))
    (subst (λ b. P (pre ++ ((laid ++ rest) ++ post)) b first) (sym (add-zero base))
    (subst (λ s. P (pre ++ s) base first) (sym (append_assoc laid rest post)) (lies_between pre m.words.items (rest ++ post) base (entries_for t first m) m.fixes.items e)))
module_lies (n ∷ front) m back t base first pre post a e =
    let P : List ℕ → ℕ → ℕ → Type 0 = λ segment b f. LiesAt segment b (entries_for t f m) m.words.items m.fixes.items in
    let laid : List ℕ = laid_from base (entries_for t first n) n.fixes.items 0 n.words.items in
    let rest : List ℕ = body_from t (base + n.size) (first + own_count n) (front ++ m ∷ back) in
    let behind : base + n.size ≡ length (pre ++ laid) = omega (arith, e, a.0, length-append pre laid, length-laid_from n.words.items base (entries_for t first n) n.fixes.items 0) in
    subst (λ f. P (pre ++ ((laid ++ rest) ++ post)) (base + (n.size + sizes front)) f) (sums first (own_count n) (owned front))
    (subst (λ b. P (pre ++ ((laid ++ rest) ++ post)) b ((first + own_count n) + owned front)) (sums base n.size (sizes front))
    (subst (λ s. P s ((base + n.size) + sizes front) ((first + own_count n) + owned front)) (regroup pre laid rest post)
    (module_lies front m back t (base + n.size) (first + own_count n) (pre ++ laid) post a.1 behind))) where
      sums : (a b c : ℕ) → (a + b) + c ≡ a + (b + c)
      sums a b c = omega arith

      regroup : (p l r q : List ℕ) → (p ++ l) ++ (r ++ q) ≡ p ++ ((l ++ r) ++ q)
      regroup p l r q = simp append_assoc

-- the last word of a segment is the number of its entries
pub count_in : (body labels : List ℕ) → entries_of (body ++ table_words labels) ≡ length labels
count_in body labels =
    ap (λ i. get_or (body ++ (reverse labels ++ length labels ∷ [])) i 0) (omega (arith, length-append body (reverse labels ++ length labels ∷ []), length-append (reverse labels) (length labels ∷ [])))
    ∙ get_or-append-add body (reverse labels ++ length labels ∷ []) (length (reverse labels) + 0) 0
    ∙ get_or-append-add (reverse labels) (length labels ∷ []) 0 0

-- entry n, counted from 1, has the label with that number
pub label_in : (body labels : List ℕ) (n : ℕ) → 0 < n → n ≤ length labels → label_of (body ++ table_words labels) n ≡ get_or labels (n - 1) 0
label_in body labels n low high =
    ap (λ i. get_or (body ++ (reverse labels ++ length labels ∷ [])) i 0) (omega (arith, length-append body (reverse labels ++ length labels ∷ []), length-append (reverse labels) (length labels ∷ []), length-reverse labels))
    ∙ get_or-append-add body (reverse labels ++ length labels ∷ []) (length labels - n) 0
    ∙ get_or_append_left (reverse labels) (length labels ∷ []) 0 (length labels - n) (omega (arith, length-reverse labels))
    ∙ get_or-reverse labels (length labels - n) 0 (omega arith)
    ∙ ap (λ i. get_or labels i 0) (omega arith)
