-- The labels of a body are those that stand in it, and where none stands twice each has its own mark.
use Rattle.std.proofs.Common.{◌≡◌, ℕ, zero, suc, ◌+◌, rules, not, Bool, true, false, List, [], ◌∷◌, ◌++◌, map, length, Option, Some, refl, sym, ap, subst, ◌∙◌}
use Rattle.std.specs.Prelude.{if◌then◌else◌}
use Rattle.std.proofs.lemmas.List.{map-append}
use Rattle.spl_module_code.specs.spl_tree.declared.names_and_places.At.{At}
use Rattle.spl_module_code.specs.spl_tree.StatementTrees as stat
use Rattle.spl_module_code.specs.spl_tree.StatementTrees.{Statement, Statements}
use Rattle.spl_module_code.specs.spl_tree.DeclarationTrees.{Placed}
use Rattle.spl_module_code.specs.spl_meaning.Names.{Table, find, same_name}
use Rattle.spl_module_code.specs.spl_meaning.Faults.{Fault, unless}
use Rattle.spl_module_code.specs.spl_meaning.StatementRules.{all_labels, all_labels_of, is_listed, repeated, label_faults}
use Rattle.spl_module_code.specs.spl_statement_code.Landings.{Landing, Context}
use Rattle.spl_module_code.specs.spl_statement_code.Labels.{mark_of, marks_of}
use Rattle.spl_module_code.specs.LabelsOfBodies.{Label, labels_in, labels_among, landed_from}
use Rattle.spl_label_marks.specs.Laws.{Lead, LabelsLead}

-- ---- names

abbrev pub names_of : List Label → List (List ℕ)
names_of ls = map (λ l. l.name) ls

abbrev pub letters_of : List Placed → List (List ℕ)
letters_of ps = map (λ p. p.letters) ps

both : (ls ms : List Label) (ps qs : List Placed) → names_of ls ≡ letters_of ps → names_of ms ≡ letters_of qs → names_of (ls ++ ms) ≡ letters_of (ps ++ qs)
both ls ms ps qs e f =
    map-append (λ l. l.name) ls ms ∙ ap (λ (xs : List (List ℕ)). xs ++ names_of ms) e ∙ ap (λ (xs : List (List ℕ)). letters_of ps ++ xs) f
    ∙ sym (map-append (λ p. p.letters) ps qs)

mutual
  pub names_in : (s : Statement) (k : ℕ) → names_of (labels_in s k) ≡ letters_of (all_labels s)
  names_in stat.Statement.empty k = refl
  names_in (stat.Statement.labelled x at s) k = ap (λ (xs : List (List ℕ)). x ∷ xs) (names_in s k)
  names_in (stat.Statement.block ss) k = names_among ss k
  names_in (stat.Statement.if_test q then_part else_part at) k =
      both (labels_in then_part k) (labels_among else_part k) (all_labels then_part) (all_labels_of else_part) (names_in then_part k) (names_among else_part k)
  names_in (stat.Statement.while_true e s at) k = names_in s k
  names_in (stat.Statement.until_true s e at) k = names_in s k
  names_in (stat.Statement.for_values x first step last s at) k = names_in s (k + 3)
  names_in (stat.Statement.case_of e ss at) k = names_among ss k
  names_in (stat.Statement.go_to x at) k = refl
  names_in (stat.Statement.return at) k = refl
  names_in (stat.Statement.assign to e at) k = refl
  names_in (stat.Statement.assign_effect to e at) k = refl
  names_in (stat.Statement.do_effect e at) k = refl
  names_in (stat.Statement.call x es at) k = refl

  pub names_among : (ss : Statements) (k : ℕ) → names_of (labels_among ss k) ≡ letters_of (all_labels_of ss)
  names_among stat.Statements.none k = refl
  names_among (stat.Statements.and s ss) k =
      both (labels_in s k) (labels_among ss k) (all_labels s) (all_labels_of ss) (names_in s k) (names_among ss k)

-- ---- none stands twice

-- none of some names is this one
abbrev pub Lacks : List ℕ → List (List ℕ) → Type 0
Lacks x [] = Unit {0}
Lacks x (y ∷ ys) = (same_name y x ≡ false) × Lacks x ys

-- each is another than those before it
abbrev pub AreApart : List (List ℕ) → Type 0
AreApart [] = Unit {0}
AreApart (x ∷ xs) = Lacks x xs × AreApart xs

-- what stands first breaks no rule
unbroken : (b : Bool) (rule : ℕ) (at : At) (fs : List Fault) → unless (not b) rule at ++ fs ≡ [] → (b ≡ false) × (fs ≡ [])
unbroken false rule at fs e = (refl, e)
unbroken true rule at fs e = absurd (cc e)

if_first : (b c : Bool) → (if b then true else c) ≡ false → (b ≡ false) × (c ≡ false)
if_first false c e = (refl, e)
if_first true c e = cc e

not_listed : (pre before : List Placed) (y : Placed) (x : List ℕ) → is_listed (pre ++ y ∷ before) x ≡ false → same_name x y.letters ≡ false
not_listed [] before y x e = (if_first (same_name x y.letters) (is_listed before x) e).0
not_listed (p ∷ pre) before y x e = not_listed pre before y x (if_first (same_name x p.letters) (is_listed (pre ++ y ∷ before) x) e).1

lacks : (rule : ℕ) (pre before : List Placed) (y : Placed) (xs : List Placed) → repeated rule (pre ++ y ∷ before) xs ≡ [] → Lacks y.letters (letters_of xs)
lacks rule pre before y [] e = tt
lacks rule pre before y (x ∷ xs) e =
    let u = unbroken (is_listed (pre ++ y ∷ before) x.letters) rule x.at (repeated rule (x ∷ (pre ++ y ∷ before)) xs) e in
    (not_listed pre before y x.letters u.0, lacks rule (x ∷ pre) before y xs u.1)

apart : (rule : ℕ) (before xs : List Placed) → repeated rule before xs ≡ [] → AreApart (letters_of xs)
apart rule before [] e = tt
apart rule before (x ∷ xs) e =
    let u = unbroken (is_listed before x.letters) rule x.at (repeated rule (x ∷ before) xs) e in
    (lacks rule [] before x xs u.1, apart rule (x ∷ before) xs u.1)

pub labels_apart : (ss : Statements) (k : ℕ) → label_faults ss ≡ [] → AreApart (names_of (labels_among ss k))
labels_apart ss k e = subst (λ (xs : List (List ℕ)). AreApart xs) (sym (names_among ss k)) (apart 20 [] (all_labels_of ss) e)

-- ---- so each has its own mark

is_itself : (x : List ℕ) → same_name x x ≡ true
is_itself x = search rules

first_found : {A : Type 0} (b : Bool) (a : A) (o : Option A) → b ≡ true → (if b then Some a else o) ≡ Some a
first_found true a o e = refl
first_found false a o e = cc e

rest_found : {A : Type 0} (b : Bool) (a : A) (o : Option A) → b ≡ false → (if b then Some a else o) ≡ o
rest_found false a o e = refl
rest_found true a o e = cc e

lead_rest : (x : List ℕ) (l : Landing) (t : Table Landing) (mark : ℕ) (xs : List Label) → Lacks x (names_of xs) → Lead (find t) mark xs → Lead (find ((x, l) ∷ t)) mark xs
lead_rest x l t mark [] apart h = tt
lead_rest x l t mark (y ∷ ys) apart h =
    (rest_found (same_name y.name x) l (find t y.name) apart.0 ∙ h.0, lead_rest x l t (suc mark) ys apart.1 h.1)

pub lead : (mark : ℕ) (xs : List Label) → AreApart (names_of xs) → Lead (find (landed_from mark xs)) mark xs
lead mark [] apart = tt
lead mark (x ∷ xs) apart = (
  first_found (same_name x.name x.name) (record { mark = mark; pending = x.pending }) (find (landed_from (suc mark) xs) x.name) (is_itself x.name),
  lead_rest x.name (record { mark = mark; pending = x.pending }) (landed_from (suc mark) xs) (suc mark) xs apart.0 (lead (suc mark) xs apart.1),
)

pub labels_lead : LabelsLead
labels_lead mark ss k once = lead mark (labels_among ss k) (labels_apart ss k once)

-- so many marks from one on
abbrev pub from_on : ℕ → ℕ → List ℕ
from_on mark zero = []
from_on mark (suc n) = mark ∷ from_on (suc mark) n

marks_led : (c : Context) (mark : ℕ) (xs : List Label) (ps : List Placed) → Lead c.landings mark xs → names_of xs ≡ letters_of ps
    → marks_of c ps ≡ from_on mark (length xs)
marks_led c mark [] [] h e = refl
marks_led c mark [] (p ∷ ps) h e = cc e
marks_led c mark (x ∷ xs) [] h e = cc e
marks_led c mark (x ∷ xs) (p ∷ ps) h e =
    let first : p.letters ≡ x.name = cc e in
    let rest : names_of xs ≡ letters_of ps = cc e in
    ap (λ o. mark_of o ++ marks_of c ps) (ap c.landings first ∙ h.0) ∙ ap (λ ms. mark ∷ ms) (marks_led c (suc mark) xs ps h.1 rest)

-- those of a body's labels, in order of text
pub marks_are : (c : Context) (mark : ℕ) (ss : Statements) (k : ℕ) → c.landings ≡ find (landed_from mark (labels_among ss k)) → label_faults ss ≡ []
    → marks_of c (all_labels_of ss) ≡ from_on mark (length (labels_among ss k))
marks_are c mark ss k is once =
    marks_led c mark (labels_among ss k) (all_labels_of ss)
    (subst (λ (h : List ℕ → Option Landing). Lead h mark (labels_among ss k)) (sym is) (labels_lead mark ss k once))
    (names_among ss k)
