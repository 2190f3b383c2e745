-- A list with its places, worked by hand: INTEGER A; OWN DOUBLE B; BYTE ARRAY C(-1:3); LOGICAL D, where OWN items begin at 10 and others at 1.
use Rattle.std.specs.Prelude.{◌≡◌, pos, negsuc, true, false, [], ◌∷◌, refl}
use Rattle.spl_tree.specs.declared.expressions.Kind.TheVariants as kind
use Rattle.spl_sorts.specs.spl_meaning.Names as n
use Rattle.spl_sorts.specs.spl_meaning.Names.{Sort, Table}
use Rattle.spl_sorts.specs.spl_meaning.Places.{list_words, list_array_words}
use Rattle.spl_places.specs.Apart.{spots_from}

-- the names are numbers for short
abbrev pub some_list : Table Sort
some_list = ((1 ∷ []), n.simple kind.Integer false) ∷ ((2 ∷ []), n.simple kind.Double true) ∷ ((3 ∷ []), n.array kind.Byte false (negsuc 0) (pos 3))
    ∷ ((4 ∷ []), n.simple kind.Logical false) ∷ []

pub known_spots : spots_from 10 1 some_list
    ≡ ((1 ∷ []), record { own = false; word = 1; sort = n.simple kind.Integer false }) ∷ ((2 ∷ []), record { own = true; word = 10; sort = n.simple kind.Double true })
    ∷ ((3 ∷ []), record { own = false; word = 2; sort = n.array kind.Byte false (negsuc 0) (pos 3) })
    ∷ ((4 ∷ []), record { own = false; word = 3; sort = n.simple kind.Logical false }) ∷ []
known_spots = refl

-- five bytes have three words
pub known_words : list_array_words false some_list ≡ 3
known_words = refl

pub known_own_words : list_words true some_list ≡ 2
known_own_words = refl
