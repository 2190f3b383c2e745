-- Where words stand for pieces that end with one, each mark that they set stands below their end.
use Rattle.std.proofs.Common.{◌≡◌, ◌<◌, ◌≤◌, ◌⊎◌, inl, inr, ℕ, suc, ◌+◌, nat_lt, Bool, true, false, List, [], ◌∷◌, ◌++◌, map, length, Option, Some, None, refl, sym, ap, subst, ◌∙◌, arith}
use Rattle.std.specs.List.{list_all}
use Rattle.std.specs.Prelude.{option_map}
use Rattle.std.proofs.lemmas.Bool.{and_parts, and_from, lt-ltb, ne_eqb, cases_eq, cases_lt}
use Rattle.mpe_segmenter.specs.hp_instr.declared.instruction.Instr.TheVariants as i
use Rattle.mpe_segmenter.specs.hp_instr.declared.instruction.Op.{Op}
use Rattle.mpe_segmenter.specs.spl_branch.declared.buffer.Code.{Code}
use Rattle.mpe_segmenter.specs.spl_branch.declared.buffer.Entry.{Entry}
use Rattle.mpe_segmenter.specs.spl_branch.declared.modules.Define.{Define}
use Rattle.mpe_segmenter.specs.spl_branch.declared.modules.Module.{Module}
use Rattle.mpe_segmenter.specs.spl_branch.declared.pieces.Piece.{Piece}
use Rattle.mpe_segmenter.specs.spl_branch.declared.pieces.Piece.TheVariants.{Do, Literal, Place, Branch, Mark, Call, Begin}
use Rattle.mpe_segmenter.specs.spl_branch.declared.spots.Spot.{Spot}
use Rattle.mpe_segmenter.specs.spl_branch.Pieces.{is_set, is_set_if, sets_once, sets, once}
use Rattle.mpe_segmenter.specs.spl_branch.Codes.{IsComplete}
use Rattle.mpe_segmenter.specs.spl_branch.Stands.{Sites, at_left, ahead, size_at, after, Stands}
use Rattle.mpe_segmenter.specs.spl_branch.Modules.{define_of, sites, Finished, Oversized}
use Rattle.mpe_segmenter.proofs.spl_branch_proofs.SurveyLemmas.{moved_rises}
use Rattle.mpe_segmenter.specs.Counts.{is_below}
use Rattle.spl_formed_modules.proofs.Closings.{closes, Closed}
use Rattle.spl_formed_modules.proofs.Laid.{no_entries, laid, length-laid, lies}

-- ---- offsets rise

further_one : (x : Piece) (marks : ℕ → ℕ) (p : Spot) (next : Op) → closes x ≡ true → suc p.offset ≤ (after marks p x next).offset
further_one (Do (i.Control which n)) marks p next is = omega arith
further_one (Call by wanted index) marks p next is = omega arith
further_one (Do (i.Pair left right)) marks p next is = cc
further_one (Do (i.Shifted kind count)) marks p next is = cc
further_one (Do (i.Short test back d)) marks p next is = cc
further_one (Do (i.Immediate which n)) marks p next is = cc
further_one (Do (i.Memory major second x ind mode)) marks p next is = cc
further_one (Do (i.LoadCode back d)) marks p next is = cc
further_one (Do (i.Branch ind back d)) marks p next is = cc
further_one (Do (i.OnCode mask back d)) marks p next is = cc
further_one (Do (i.Loop modify back d)) marks p next is = cc
further_one (Do (i.Illegal w)) marks p next is = cc
further_one (Literal w) marks p next is = cc
further_one (Place l) marks p next is = cc
further_one (Branch by l) marks p next is = cc
further_one (Mark l) marks p next is = cc
further_one (Begin at) marks p next is = cc

-- behind the last piece there is a word more
closed_on : (ws : List ℕ) (s : Sites) (front : List Piece) (x : Piece) (p q : Spot) → closes x ≡ true → Stands ws s p (front ++ x ∷ []) q → suc p.offset ≤ q.offset
closed_on ws s [] x p q is stands =
    let one = further_one x s.marks p (ahead []) is in
    let end = ap (λ (r : Spot). r.offset) stands.1 in
    omega (arith, one, end)
closed_on ws s (y ∷ front) x p q is stands =
    let one = moved_rises y (size_at s.marks p.offset y) p (ahead (front ++ x ∷ [])) in
    let rest = closed_on ws s front x (after s.marks p y (ahead (front ++ x ∷ []))) q is stands.1 in
    omega (arith, one, rest)

-- a piece that sets a mark is that mark
is_mark : (x : Piece) (l : ℕ) → 0 < sets_once l x → x ≡ Mark l
is_mark (Do by) l h = absurd (omega (arith, h))
is_mark (Literal w) l h = absurd (omega (arith, h))
is_mark (Place m) l h = absurd (omega (arith, h))
is_mark (Branch by m) l h = absurd (omega (arith, h))
is_mark (Call by wanted index) l h = absurd (omega (arith, h))
is_mark (Begin at) l h = absurd (omega (arith, h))
is_mark (Mark m) l h = found (cases_eq m l)
  where
    found : (m ≡ l) ⊎ (m ≡ l → ⊥) → Mark m ≡ Mark l
    found (inl e) = ap Mark e
    found (inr e) = absurd (omega (arith, rw (ne_eqb m l e) at h))

closes_none : (l : ℕ) (x : Piece) → closes x ≡ true → 0 < sets_once l x → ⊥
closes_none l x is h = let e = sym is ∙ ap closes (is_mark x l h) in cc

mark_below : (ws : List ℕ) (s : Sites) (front : List Piece) (x : Piece) (p q : Spot) (l : ℕ) → closes x ≡ true → Stands ws s p (front ++ x ∷ []) q
    → 0 < sets l (front ++ x ∷ []) → s.marks l < q.offset
mark_below ws s [] x p q l is stands set = absurd (closes_none l x is (omega (arith, set)))
mark_below ws s (y ∷ front) x p q l is stands set =
    by (cases_lt 0 (sets_once l y)) (λ some. mark_below ws s front x (after s.marks p y (ahead (front ++ x ∷ []))) q l is stands.1 some)
  where
    by : (0 < sets_once l y) ⊎ (sets_once l y ≤ 0) → (0 < sets l (front ++ x ∷ []) → s.marks l < q.offset) → s.marks l < q.offset
    by (inl h) rest = here (is_mark y l h)
      where
        here : y ≡ Mark l → s.marks l < q.offset
        here e =
            let again : Stands ws s p (Mark l ∷ (front ++ x ∷ [])) q = subst (λ (z : Piece). Stands ws s p (z ∷ (front ++ x ∷ [])) q) e stands in
            let at = ap (λ (r : Spot). r.offset) again.0 in
            let rest = closed_on ws s front x p q is again.1 in
            omega (arith, at, rest)
    by (inr none) rest = rest (omega (arith, set, none))

-- ---- a module of code that ends with a word

low : (n : ℕ) (segment : List ℕ) (ws : List ℕ) → length segment ≡ length ws → n ≡ length ws → n ≤ 16383 → length segment ≤ 16383
low n segment ws a b le = omega (arith, a, b, le)

nothing_more : (n : ℕ) → 0 + n ≡ n
nothing_more n = omega arith

no_entry : (index : ℕ) → 0 < 256
no_entry index = omega arith

pub stands_there : (c : Code) (m : Module) (f : Finished c m) → m.size ≤ 16383
    → Stands (laid 0 m.fixes.items m.words.items) (sites 0 f.marks no_entries) (at_left 0) c.pieces.items (at_left (0 + length m.words.items))
stands_there c m f le =
    f.stands (laid 0 m.fixes.items m.words.items) 0 no_entries
    (low m.size (laid 0 m.fixes.items m.words.items) m.words.items (length-laid 0 m.fixes.items m.words.items) f.size le)
    (λ wanted index. no_entry index) (lies m.fixes.items m.words.items)

pub some_words : (c : Code) (m : Module) → Closed c.pieces.items → Finished c m → m.size ≤ 16383 → 0 < m.size
some_words c m closed f le =
    let stands = subst (λ ps. Stands (laid 0 m.fixes.items m.words.items) (sites 0 f.marks no_entries) (at_left 0) ps (at_left (0 + length m.words.items))) closed.is (stands_there c m f le) in
    let on = closed_on (laid 0 m.fixes.items m.words.items) (sites 0 f.marks no_entries) closed.front closed.last (at_left 0) (at_left (0 + length m.words.items)) closed.closes_it stands in
    let size = f.size in
    omega (arith, on, size)

set_once : (b : Bool) (n : ℕ) → b ≡ true → n ≡ once b → 0 < n
set_once true n is e = omega (arith, e)
set_once false n is e = cc

-- a mark that is set stands at a word
set_below : (c : Code) (m : Module) (f : Finished c m) (l : ℕ) → Closed c.pieces.items → m.size ≤ 16383 → is_set c.marks.items l ≡ true → f.marks l < m.size
set_below c m f l closed le set =
    let ws = laid 0 m.fixes.items m.words.items in
    let s : Sites = sites 0 f.marks no_entries in
    let some : 0 < sets l c.pieces.items = set_once (is_set c.marks.items l) (sets l c.pieces.items) set (c.in_step l) in
    let stands = subst (λ ps. Stands ws s (at_left 0) ps (at_left (0 + length m.words.items))) closed.is (stands_there c m f le) in
    let below = mark_below ws s closed.front closed.last (at_left 0) (at_left (0 + length m.words.items)) l closed.closes_it stands
    (subst (λ ps. 0 < sets l ps) closed.is some) in
    let size = f.size in
    omega (arith, below, size)

defines_below : (marks : List Bool) (at : ℕ → ℕ) (n : ℕ) (es : List Entry) → ((l : ℕ) → is_set marks l ≡ true → at l < n)
    → list_all (λ (e : Entry). is_set marks e.mark) es ≡ true → list_all (λ (d : Define). nat_lt d.offset n) (map (define_of at) es) ≡ true
defines_below marks at n [] below all = refl
defines_below marks at n (e ∷ es) below all =
    let both = and_parts (is_set marks e.mark) (list_all (λ (e : Entry). is_set marks e.mark) es) all in
    and_from (nat_lt (at e.mark) n) (list_all (λ (d : Define). nat_lt d.offset n) (map (define_of at) es))
    (lt-ltb (at e.mark) n (below e.mark both.0)) (defines_below marks at n es below both.1)

main_below : (marks : List Bool) (at : ℕ → ℕ) (n : ℕ) (o : Option ℕ) → ((l : ℕ) → is_set marks l ≡ true → at l < n) → is_set_if marks o ≡ true
    → is_below n (option_map at o) ≡ true
main_below marks at n None below set = refl
main_below marks at n (Some l) below set = lt-ltb (at l) n (below l set)

-- a module has words, and its entries and its main body stand at them
pub record Stood (m : Module) : Type 0 where
  pub words : 0 < m.size
  pub defines : list_all (λ (d : Define). nat_lt d.offset m.size) m.defines.items ≡ true
  pub main : is_below m.size m.main ≡ true

pub stood_finished : (c : Code) (m : Module) → IsComplete c → Closed c.pieces.items → Finished c m → m.size ≤ 16383 → Stood m
stood_finished c m complete closed f le =
    let below : (l : ℕ) → is_set c.marks.items l ≡ true → f.marks l < m.size = λ l set. set_below c m f l closed le set in
    record {
      words = some_words c m closed f le;
      defines = ap (list_all (λ (d : Define). nat_lt d.offset m.size)) f.defines ∙ defines_below c.marks.items f.marks m.size c.entries.items below complete.entries;
      main = ap (is_below m.size) f.main ∙ main_below c.marks.items f.marks m.size c.main below complete.main;
    }

at_first : (n : ℕ) → n ≡ 16384 → 0 < n
at_first n is = omega (arith, is)

-- the offsets of an oversized one are 0
pub stood_oversized : (c : Code) (m : Module) → IsComplete c → Oversized c m → Stood m
stood_oversized c m complete o = record {
  words = at_first m.size o.size;
  defines = ap (list_all (λ (d : Define). nat_lt d.offset m.size)) o.defines
      ∙ defines_below c.marks.items (λ l. 0) m.size c.entries.items (λ l set. at_first m.size o.size) complete.entries;
  main = ap (is_below m.size) o.main ∙ main_below c.marks.items (λ l. 0) m.size c.main (λ l set. at_first m.size o.size) complete.main;
}
