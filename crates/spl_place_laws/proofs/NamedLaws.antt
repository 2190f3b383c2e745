-- The table of places of items, and of parameters, is that of their entries.
use Rattle.std.proofs.Common.{ℕ, ◌≡◌, ◌+◌, Bool, true, false, nat_lt, List, [], ◌∷◌, ◌++◌, map, refl, ap, ◌∙◌}
use Rattle.std.specs.Prelude.{pos, if◌then◌else◌}
use Rattle.spl_entries.specs.hp_word.Words.{word_of}
use Rattle.spl_entries.specs.spl_tree.declared.expressions.Kind.{Kind}
use Rattle.spl_entries.specs.spl_tree.declared.expressions.Kind.TheVariants as kind
use Rattle.spl_entries.specs.spl_tree.DeclarationTrees as decl
use Rattle.spl_entries.specs.spl_tree.DeclarationTrees.{Item, Declaration, Declarations}
use Rattle.spl_entries.specs.spl_meaning.Names as n
use Rattle.spl_entries.specs.spl_meaning.Names.{Names, Sort, Table, Formal}
use Rattle.spl_entries.specs.spl_meaning.Tables.{shaped}
use Rattle.spl_entries.specs.spl_meaning.Places as p
use Rattle.spl_entries.specs.spl_meaning.Places.{data_word, above_base, below_base, below_return, is_own, item_words, where_own, only, place_of, places_from}
use Rattle.spl_entries.specs.spl_meaning.Pending.{formal_words, formals_words}
use Rattle.spl_entries.specs.spl_meaning.Bodies.{parameter_places}
use Rattle.spl_entries.specs.spl_found.OwnNames.{over, with_name, behind_declaration}
use Rattle.spl_entries.specs.spl_places.declared.places.Starts.{Starts}
use Rattle.spl_entries.specs.spl_places.ListedData.{Datum, items_data, declaration_data, list_data}
use Rattle.spl_entries.specs.spl_places.Spots.{behind_item}
use Rattle.spl_entries.specs.spl_places.Held.{is_data, named}
use Rattle.spl_entries.specs.spl_places.Programs.{Each}
use Rattle.spl_entries.specs.spl_formals.ResultWords.{place_word}
use Rattle.spl_entries.specs.Entries.{item_entries, parameter_entries}
use Rattle.spl_place_laws.specs.NamedEntries.{IsData, words_by, item_words_by, parameter_words_by}

-- ---- items

-- each kind has a word
kind_has : (k : Kind) → nat_lt 0 (item_words (n.simple k true)) ≡ true
kind_has kind.Integer = refl
kind_has kind.Logical = refl
kind_has kind.Double = refl
kind_has kind.Byte = refl

-- what stands for data has a word
data_has : (s : Sort) → is_data s ≡ true → nat_lt 0 (item_words s) ≡ true
data_has (n.simple k own) is = kind_has k
data_has (n.array k own low high) is = refl
data_has (n.view k own base) is = refl
data_has (n.pointer k own) is = refl
data_has (n.value k) is = cc
data_has (n.by_reference k) is = cc
data_has (n.array_parameter k) is = cc
data_has (n.equate v) is = cc
data_has n.label is = cc
data_has (n.intrinsic i) is = cc
data_has (n.procedure q) is = cc
data_has (n.subroutine q) is = cc
data_has n.unknown is = cc

-- the word of a place that is OWN or not
global_word : (b : Bool) (o h : ℕ) → place_word (place_of data_word b o h) ≡ word_of (pos (if b then o else h))
global_word true o h = refl
global_word false o h = refl

local_word : (b : Bool) (o h : ℕ) → place_word (place_of above_base b o h) ≡ word_of (pos (if b then o else h))
local_word true o h = refl
local_word false o h = refl

-- a table with an entry that is there
words_more : (b : Bool) (e : List ℕ × p.Place) (w : ℕ) (t : Table p.Place) (rest : Table ℕ) → b ≡ true → place_word e.1 ≡ w → words_by t ≡ rest
    → words_by (only b e ++ t) ≡ (e.0, w) ∷ rest
words_more true e w t rest is word same = ap (λ (v : ℕ). (e.0, v) ∷ words_by t) word ∙ ap (λ (r : Table ℕ). (e.0, w) ∷ r) same
words_more false e w t rest is word same = cc

pub globals_named : (s : Starts) (ds : List Datum) → Each IsData ds
    → words_by (places_from data_word s.own s.here (map named ds)) ≡ item_words_by ds (item_entries s ds)
globals_named s [] all = refl
globals_named s (d ∷ ds) all =
    words_more (nat_lt 0 (item_words d.sort)) (d.name, place_of data_word (is_own d.sort) s.own s.here) (word_of (pos (if is_own d.sort then s.own else s.here)))
    (places_from data_word (s.own + where_own true item_words d.sort) (s.here + where_own false item_words d.sort) (map named ds))
    (item_words_by ds (item_entries (behind_item s d.sort) ds))
    (data_has d.sort all.0) (global_word (is_own d.sort) s.own s.here) (globals_named (behind_item s d.sort) ds all.1)

pub locals_named : (s : Starts) (ds : List Datum) → Each IsData ds
    → words_by (places_from above_base s.own s.here (map named ds)) ≡ item_words_by ds (item_entries s ds)
locals_named s [] all = refl
locals_named s (d ∷ ds) all =
    words_more (nat_lt 0 (item_words d.sort)) (d.name, place_of above_base (is_own d.sort) s.own s.here) (word_of (pos (if is_own d.sort then s.own else s.here)))
    (places_from above_base (s.own + where_own true item_words d.sort) (s.here + where_own false item_words d.sort) (map named ds))
    (item_words_by ds (item_entries (behind_item s d.sort) ds))
    (data_has d.sort all.0) (local_word (is_own d.sort) s.own s.here) (locals_named (behind_item s d.sort) ds all.1)

-- ---- parameters

pub parameters_named : (gap : ℕ) (fs : List Formal) → words_by (parameter_places below_base gap fs) ≡ parameter_words_by fs (parameter_entries gap fs)
parameters_named gap [] = refl
parameters_named gap (f ∷ fs) =
    ap (λ (r : Table ℕ). (f.name, place_word (below_base (gap + formal_words f + formals_words fs))) ∷ r) (parameters_named gap fs)

pub inner_named : (gap : ℕ) (fs : List Formal) → words_by (parameter_places below_return gap fs) ≡ parameter_words_by fs (parameter_entries gap fs)
inner_named gap [] = refl
inner_named gap (f ∷ fs) =
    ap (λ (r : Table ℕ). (f.name, place_word (below_return (gap + formal_words f + formals_words fs))) ∷ r) (inner_named gap fs)

-- ---- items stand for data

shape_data : (names : Names) (own : Bool) (k : Kind) (s : decl.Shape) → is_data (shaped names own k s) ≡ true
shape_data names own k decl.Shape.simple = refl
shape_data names own k (decl.Shape.array low high) = refl
shape_data names own k (decl.Shape.view base) = refl
shape_data names own k decl.Shape.pointer = refl

each_both : {A : Type 0} (P : A → Type 0) (xs ys : List A) → Each P xs → Each P ys → Each P (xs ++ ys)
each_both P [] ys first second = second
each_both P (x ∷ xs) ys first second = (first.0, each_both P xs ys first.1 second)

all_items : (outer : Names) (own : Bool) (k : Kind) (here : Names) (is : List Item) → Each IsData (items_data outer own k here is)
all_items outer own k here [] = tt
all_items outer own k here (i ∷ is) =
    (shape_data (over here outer) own k i.shape, all_items outer own k (with_name here i.name (shaped (over here outer) own k i.shape)) is)

all_of : (outer here : Names) (d : Declaration) → Each IsData (declaration_data outer here d)
all_of outer here (decl.Declaration.data_items own k items) = all_items outer own k here items
all_of outer here (decl.Declaration.equate es) = tt
all_of outer here (decl.Declaration.intrinsic xs) = tt
all_of outer here (decl.Declaration.label xs) = tt
all_of outer here (decl.Declaration.forward h) = tt
all_of outer here (decl.Declaration.external h) = tt
all_of outer here (decl.Declaration.procedure h items ss) = tt
all_of outer here (decl.Declaration.subroutine h s) = tt

pub all_data : (outer here : Names) (ds : Declarations) → Each IsData (list_data outer here ds)
all_data outer here decl.none = tt
all_data outer here (decl.and d ds) =
    each_both IsData (declaration_data outer here d) (list_data outer (behind_declaration outer here d) ds) (all_of outer here d) (all_data outer (behind_declaration outer here d) ds)
