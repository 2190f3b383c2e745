-- Loops over lists of names and over declarations: what is found, and what names stand for, from one of them on.
use Rattle.std.proofs.Common.{◌≡◌, ◌<◌, ◌≤◌, ℕ, ◌+◌, List, map, drop, length, get_or, Option, is_some}
use Rattle.spl_tree.specs.declared.names_and_places.Name.{Name}
use Rattle.spl_tree.specs.declared.names_and_places.At.{At}
use Rattle.spl_tree.specs.Views.{letters}
use Rattle.spl_tree.specs.Spells.{placed, declaration}
use Rattle.spl_tree.specs.declared.declarations.Decl.{Decl}
use Rattle.spl_tree.specs.DeclarationTrees.{declarations}
use Rattle.spl_sorts.specs.spl_meaning.Names as n
use Rattle.spl_sorts.specs.spl_meaning.Names.{Names, intrinsic_named}
use Rattle.spl_sorts.specs.spl_meaning.Tables.{intrinsic_sort}
use Rattle.spl_sorts.specs.spl_meaning.Faults.{Fault, unless, first_fault}
use Rattle.spl_sorts.specs.spl_meaning.DeclarationRules.{Around}
use Rattle.spl_uses.specs.spl_found.OwnNames.{with_name, behind_labels, behind_intrinsics, behind_declaration, behind_declarations}
use Rattle.spl_uses.specs.spl_found.FoundDeclarations.{again, found_labels, found_intrinsics, found_local, found_locals}
use Rattle.spl_profiles.proofs.NameWalks.{onward, onward_end}

-- ---- LABEL

pub label_step : (here : Names) (list : List (Name × At)) (i : ℕ) (x : Name × At) (f : Option Fault) → i < length list → x ≡ get_or list i x
    → found_labels here (map placed (drop i list)) f
    ≡ found_labels (with_name here (letters x.0) n.label) (map placed (drop (i + 1) list)) (first_fault f (again here (letters x.0) x.1))
label_step here list i x f lt is = onward placed (λ xs. found_labels here xs f) list i x lt is

pub label_end : (here : Names) (list : List (Name × At)) (i : ℕ) (f : Option Fault) → length list ≤ i
    → found_labels here (map placed (drop i list)) f ≡ f
label_end here list i f le = onward_end placed (λ xs. found_labels here xs f) list i le

pub labels_step : (here : Names) (list : List (Name × At)) (i : ℕ) (x : Name × At) → i < length list → x ≡ get_or list i x
    → behind_labels here (map placed (drop i list)) ≡ behind_labels (with_name here (letters x.0) n.label) (map placed (drop (i + 1) list))
labels_step here list i x lt is = onward placed (behind_labels here) list i x lt is

pub labels_end : (here : Names) (list : List (Name × At)) (i : ℕ) → length list ≤ i → behind_labels here (map placed (drop i list)) ≡ here
labels_end here list i le = onward_end placed (behind_labels here) list i le

pub ruleset label_steps = (label_step, label_end, labels_step, labels_end)

-- ---- INTRINSIC

pub intrinsic_step : (here : Names) (list : List (Name × At)) (i : ℕ) (x : Name × At) (f : Option Fault) → i < length list → x ≡ get_or list i x
    → found_intrinsics here (map placed (drop i list)) f
    ≡ found_intrinsics (with_name here (letters x.0) (intrinsic_sort (intrinsic_named (letters x.0)))) (map placed (drop (i + 1) list))
    (first_fault (first_fault f (again here (letters x.0) x.1)) (unless (is_some (intrinsic_named (letters x.0))) 26 x.1))
intrinsic_step here list i x f lt is = onward placed (λ xs. found_intrinsics here xs f) list i x lt is

pub intrinsic_end : (here : Names) (list : List (Name × At)) (i : ℕ) (f : Option Fault) → length list ≤ i
    → found_intrinsics here (map placed (drop i list)) f ≡ f
intrinsic_end here list i f le = onward_end placed (λ xs. found_intrinsics here xs f) list i le

pub intrinsics_step : (here : Names) (list : List (Name × At)) (i : ℕ) (x : Name × At) → i < length list → x ≡ get_or list i x
    → behind_intrinsics here (map placed (drop i list))
    ≡ behind_intrinsics (with_name here (letters x.0) (intrinsic_sort (intrinsic_named (letters x.0)))) (map placed (drop (i + 1) list))
intrinsics_step here list i x lt is = onward placed (behind_intrinsics here) list i x lt is

pub intrinsics_end : (here : Names) (list : List (Name × At)) (i : ℕ) → length list ≤ i → behind_intrinsics here (map placed (drop i list)) ≡ here
intrinsics_end here list i le = onward_end placed (behind_intrinsics here) list i le

pub ruleset intrinsic_steps = (intrinsic_step, intrinsic_end, intrinsics_step, intrinsics_end)

-- ---- declarations

pub declaration_step : (a : Around) (here : Names) (list : List Decl) (i : ℕ) (d : Decl) (f : Option Fault) → i < length list → d ≡ get_or list i d
    → found_locals a here (declarations (map declaration (drop i list))) f
    ≡ found_locals a (behind_declaration a.names here (declaration d)) (declarations (map declaration (drop (i + 1) list))) (found_local a here (declaration d) f)
declaration_step a here list i d f lt is = onward declaration (λ ds. found_locals a here (declarations ds) f) list i d lt is

pub declaration_end : (a : Around) (here : Names) (list : List Decl) (i : ℕ) (f : Option Fault) → length list ≤ i
    → found_locals a here (declarations (map declaration (drop i list))) f ≡ f
declaration_end a here list i f le = onward_end declaration (λ ds. found_locals a here (declarations ds) f) list i le

pub declarations_step : (outer here : Names) (list : List Decl) (i : ℕ) (d : Decl) → i < length list → d ≡ get_or list i d
    → behind_declarations outer here (declarations (map declaration (drop i list)))
    ≡ behind_declarations outer (behind_declaration outer here (declaration d)) (declarations (map declaration (drop (i + 1) list)))
declarations_step outer here list i d lt is = onward declaration (λ ds. behind_declarations outer here (declarations ds)) list i d lt is

pub declarations_end : (outer here : Names) (list : List Decl) (i : ℕ) → length list ≤ i
    → behind_declarations outer here (declarations (map declaration (drop i list))) ≡ here
declarations_end outer here list i le = onward_end declaration (λ ds. behind_declarations outer here (declarations ds)) list i le

pub ruleset declaration_steps = (declaration_step, declaration_end, declarations_step, declarations_end)
