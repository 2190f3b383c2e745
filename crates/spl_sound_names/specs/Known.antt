-- What names stand for in lists of declarations that break no rule: each is known, and has what an expression asks of it.
use Rattle.std.specs.Prelude.{◌≡◌, ℕ, Bool, true, false, if◌then◌else◌, List, Option, Some, is_some}
use Rattle.spl_sound.specs.spl_tree.DeclarationTrees as decl
use Rattle.spl_sound.specs.spl_tree.DeclarationTrees.{Declaration, Declarations}
use Rattle.spl_sound.specs.spl_meaning.Names as n
use Rattle.spl_sound.specs.spl_meaning.Names.{Names, Sort, same_name}
use Rattle.spl_sound.specs.spl_meaning.Places.{Place}

-- it is declared rightly, and an EQUATE name has a value
abbrev pub is_known : Sort → Bool
is_known (n.equate v) = is_some v
is_known n.unknown = false
is_known s = true

-- an item with words of its own, or a cell
abbrev pub is_item : Sort → Bool
is_item (n.simple k own) = true
is_item (n.array k own low high) = true
is_item (n.view k own base) = true
is_item (n.pointer k own) = true
is_item s = false

-- a parameter
abbrev pub is_passed : Sort → Bool
is_passed (n.value k) = true
is_passed (n.by_reference k) = true
is_passed (n.array_parameter k) = true
is_passed s = false

-- a subroutine
abbrev pub is_inner : Sort → Bool
is_inner (n.subroutine p) = true
is_inner s = false

-- What each name of a list stands for is known; it is a parameter or a subroutine only where that is among these.
pub record AreKnown (parameters subroutines : List ℕ → Bool) (names : Names) : Type 0 where
  pub known : (x : List ℕ) (s : Sort) → names x ≡ Some s → is_known s ≡ true
  pub passed : (x : List ℕ) (s : Sort) → names x ≡ Some s → is_passed s ≡ true → parameters x ≡ true
  pub inner : (x : List ℕ) (s : Sort) → names x ≡ Some s → is_inner s ≡ true → subroutines x ≡ true

-- What the names that a body sees stand for is known; each variable has a place, and each subroutine an entry.
pub record NamesAreFound (names : Names) (places : List ℕ → Option Place) (entries : List ℕ → Option ℕ) : Type 0 where
  pub known : (x : List ℕ) (s : Sort) → names x ≡ Some s → is_known s ≡ true
  pub items : (x : List ℕ) (s : Sort) → names x ≡ Some s → is_item s ≡ true → is_some (places x) ≡ true
  pub passed : (x : List ℕ) (s : Sort) → names x ≡ Some s → is_passed s ≡ true → is_some (places x) ≡ true
  pub inner : (x : List ℕ) (s : Sort) → names x ≡ Some s → is_inner s ≡ true → is_some (entries x) ≡ true

-- whether a declaration is that of a subroutine with a name
abbrev pub declares_inner : Declaration → List ℕ → Bool
declares_inner (decl.Declaration.subroutine h s) x = same_name x h.name
declares_inner d x = false

-- whether one among some is
abbrev pub has_inner : Declarations → List ℕ → Bool
has_inner decl.none x = false
has_inner (decl.and d ds) x = if declares_inner d x then true else has_inner ds x

-- behind a subroutine stand only subroutines; the flag says that one stands before
abbrev pub inner_last : Bool → Declarations → Bool
inner_last after decl.none = true
inner_last after (decl.and (decl.Declaration.subroutine h s) ds) = inner_last true ds
inner_last after (decl.and d ds) = if after then false else inner_last false ds
