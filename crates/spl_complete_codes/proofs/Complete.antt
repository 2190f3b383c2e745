-- All marks of such a code are set; so each that it names is, since a code names none but those that were made.
-- 1. a mark among so many that are set is set                           (set_below)
-- 2. so are those that pieces, entries and the main body name           (named_set, entries_set, main_set)
-- 3. each call has its want or its entry, by the law of calls           (complete)
use Rattle.std.proofs.Common.{◌≡◌, ◌<◌, ◌≤◌, ℕ, suc, ◌+◌, Bool, true, false, if◌then◌else◌, List, [], ◌∷◌, map, drop, length, replicate, Option, Some, None, refl, sym, ap, ◌∙◌, arith}
use Rattle.std.specs.List.{list_all}
use Rattle.std.proofs.lemmas.Bool.{ltb-true, and_parts, and_from}
use Rattle.std.proofs.lemmas.List.{get_or-replicate, length-replicate}
use Rattle.spl_call_indexes.specs.spl_branch.declared.buffer.Entry as code
use Rattle.spl_call_indexes.specs.spl_branch.declared.pieces.Piece.{Piece}
use Rattle.spl_call_indexes.specs.spl_branch.Pieces.{named, is_made, is_set, is_set_if}
use Rattle.spl_call_indexes.specs.spl_scopes.Entries.{Entry, module_entries}
use Rattle.spl_call_indexes.specs.spl_modules.Made.{Made, made_of, made_from}
use Rattle.spl_call_indexes.specs.spl_module_code.Modules.{holds_main, marks_before, module_written}
use Rattle.spl_call_indexes.proofs.ModuleLaws.{code_indexes}
use Rattle.spl_complete_codes.specs.Laws.{CodesAreComplete}

-- a mark is set where all are
set_below : (n l : ℕ) → l < n → is_set (replicate n true) l ≡ true
set_below n l lt = get_or-replicate n l true false lt

-- the mark that something names, where it was made
made_set : (n : ℕ) (o : Option ℕ) → is_made n o ≡ true → is_set_if (replicate n true) o ≡ true
made_set n None is = refl
made_set n (Some l) is = set_below n l (ltb-true l n is)

named_set : (n : ℕ) (ps : List Piece) → list_all (λ x. is_made n (named x)) ps ≡ true → list_all (λ x. is_set_if (replicate n true) (named x)) ps ≡ true
named_set n [] is = refl
named_set n (x ∷ ps) is =
    let both = and_parts (is_made n (named x)) (list_all (λ x. is_made n (named x)) ps) is in
    and_from (is_set_if (replicate n true) (named x)) (list_all (λ x. is_set_if (replicate n true) (named x)) ps)
    (made_set n (named x) both.0) (named_set n ps both.1)

-- the mark of the first of some entries
first_mark : ℕ → List Made → ℕ
first_mark k [] = k
first_mark k (m ∷ ms) = m.mark

-- entries whose marks are their numbers, the first of which has the number k
pub entries_set : (n k : ℕ) (es : List code.Entry) (xs : List Entry) → map made_of es ≡ made_from k xs → k + length xs ≤ n
    → list_all (λ (e : code.Entry). is_set (replicate n true) e.mark) es ≡ true
unfolding first_mark
entries_set n k [] xs is le = refl
entries_set n k (e ∷ es) [] is le = cc
entries_set n k (e ∷ es) (x ∷ xs) is le =
    let mark : e.mark ≡ k = ap (first_mark k) is in
    and_from (is_set (replicate n true) e.mark) (list_all (λ (e : code.Entry). is_set (replicate n true) e.mark) es)
    (ap (λ l. is_set (replicate n true) l) mark ∙ set_below n k (omega (arith, le)))
    (entries_set n (suc k) es xs (ap (λ ms. drop 1 ms) is) (omega (arith, le)))

-- the main body's mark stands behind those of the entries
main_set : (n k : ℕ) (b : Bool) → k + (if b then 1 else 0) ≤ n → is_set_if (replicate n true) (if b then Some k else None) ≡ true
main_set n k true le = set_below n k (omega (arith, le))
main_set n k false le = refl

within : (a b n : ℕ) → a + b ≤ n → 0 + a ≤ n
within a b n le = omega (arith, le)

before : (a b : ℕ) → a ≤ a + b
before a b = omega arith

pub complete : CodesAreComplete
complete p name g c is =
    let es : List Entry = module_entries p.unit g in
    let n : ℕ = marks_before p g + (module_written p g).marks in
    let all : c.marks.items ≡ replicate n true = is.marks in
    let count : length c.marks.items ≡ n = ap length all ∙ length-replicate n true in
    let many : marks_before p g ≤ n = before (marks_before p g) (module_written p g).marks in
    record {
      pieces =
          ap (λ (ms : List Bool). list_all (λ x. is_set_if ms (named x)) c.pieces.items) all
          ∙ named_set n c.pieces.items (ap (λ (k : ℕ). list_all (λ x. is_made k (named x)) c.pieces.items) (sym count) ∙ c.made);
      entries =
          ap (λ (ms : List Bool). list_all (λ (e : code.Entry). is_set ms e.mark) c.entries.items) all
          ∙ entries_set n 0 c.entries.items es is.entries (within (length es) (if holds_main p g then 1 else 0) n many);
      main = ap (λ (ms : List Bool). is_set_if ms c.main) all ∙ ap (is_set_if (replicate n true)) is.main ∙ main_set n (length es) (holds_main p g) many;
      calls = code_indexes p name g c is;
    }
