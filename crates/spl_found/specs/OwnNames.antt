-- A list of declarations as what each of its names stands for: all that rules ask of it.
use Rattle.std.specs.Prelude.{ℕ, Bool, if◌then◌else◌, List, [], ◌∷◌, Option, Some, None}
use Rattle.spl_meaning.specs.spl_tree.declared.expressions.Kind.{Kind}
use Rattle.spl_meaning.specs.spl_tree.DeclarationTrees as decl
use Rattle.spl_meaning.specs.spl_tree.DeclarationTrees.{Placed, Item, Equal, Declaration, Declarations}
use Rattle.spl_meaning.specs.Names as n
use Rattle.spl_meaning.specs.Names.{Names, or_else, same_name, profile_of, intrinsic_named, sum_value}
use Rattle.spl_meaning.specs.Tables.{shaped, intrinsic_sort}

-- the names of a list hide those around it
abbrev pub over : Names → Names → Names
over here outer x = or_else (here x) (outer x)

-- a name is declared: nothing changes where it is there
unfoldable pub with_name : {A : Type 0} → (List ℕ → Option A) → List ℕ → A → List ℕ → Option A
with_name here x s y = or_else (here y) (if same_name y x then Some s else None)

-- ---- the names of a list behind more of it

-- behind the items of a declaration of data; the flag says that they are OWN
abbrev pub behind_items : Names → Bool → Kind → Names → List Item → Names
behind_items outer own k here [] = here
behind_items outer own k here (i ∷ is) = behind_items outer own k (with_name here i.name (shaped (over here outer) own k i.shape)) is

-- behind those of an EQUATE
abbrev pub behind_equates : Names → Names → List Equal → Names
behind_equates outer here [] = here
behind_equates outer here (e ∷ es) = behind_equates outer (with_name here e.name (n.equate (n.kept_value (sum_value (over here outer) e.terms)))) es

-- behind those of an INTRINSIC
abbrev pub behind_intrinsics : Names → List Placed → Names
behind_intrinsics here [] = here
behind_intrinsics here (x ∷ xs) = behind_intrinsics (with_name here x.letters (intrinsic_sort (intrinsic_named x.letters))) xs

-- behind those of a LABEL
abbrev pub behind_labels : Names → List Placed → Names
behind_labels here [] = here
behind_labels here (x ∷ xs) = behind_labels (with_name here x.letters n.label) xs

-- behind a declaration, with names around the list
abbrev pub behind_declaration : Names → Names → Declaration → Names
behind_declaration outer here (decl.Declaration.data_items own k items) = behind_items outer own k here items
behind_declaration outer here (decl.Declaration.equate es) = behind_equates outer here es
behind_declaration outer here (decl.Declaration.intrinsic xs) = behind_intrinsics here xs
behind_declaration outer here (decl.Declaration.label xs) = behind_labels here xs
behind_declaration outer here (decl.Declaration.forward h) = with_name here h.name (n.procedure (profile_of h))
behind_declaration outer here (decl.Declaration.external h) = with_name here h.name (n.procedure (profile_of h))
behind_declaration outer here (decl.Declaration.procedure h items ss) = with_name here h.name (n.procedure (profile_of h))
behind_declaration outer here (decl.Declaration.subroutine h s) = with_name here h.name (n.subroutine (profile_of h))

-- behind declarations in order
abbrev pub behind_declarations : Names → Names → Declarations → Names
behind_declarations outer here decl.none = here
behind_declarations outer here (decl.and d ds) = behind_declarations outer (behind_declaration outer here d) ds
