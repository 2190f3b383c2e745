-- The loops over texts, and over their tokens.
use Rattle.std.proofs.Common.{ℕ, zero, suc, ◌≡◌, ◌+◌, ◌<◌, ◌≤◌, List, [], ◌∷◌, ◌++◌, map, length, drop, take, get_or, add-one, Result, Ok, Err, refl, ap, sym, subst, ◌∙◌, arith}
use Rattle.std.specs.Prelude.{IfErr, IsErrAnd}
use Rattle.std.proofs.Math.Seq.{take-suc, drop-cons}
use Rattle.std.proofs.lemmas.List.{length-map, length-take-le, map_push, take-append-drop, map-append}
use Rattle.std.proofs.lemmas.Option.{slice_get_read}
use Rattle.spl_tree.specs.declared.names_and_places.Chars.{Chars}
use Rattle.spl_tree.specs.declared.tokens.Lexed.{Lexed}
use Rattle.spl_tree.specs.declared.units.SplUnit.{SplUnit}
use Rattle.spl_cuts.specs.Cutting.{CutsWithin}
use Rattle.spl_lexer.specs.TokenViews.{listed_of}
use Rattle.spl_sound.specs.Spelled.{source_of}
use Rattle.spl_program.specs.declared.faults.ProgramFault.{ProgramFault}
use Rattle.spl_program.specs.declared.faults.ProgramFault.TheVariants as why
use Rattle.spl_program.specs.Texts.{AreCut, IsUncut, FirstUncut, IsSpelled, AreUnits, FirstUnspelled}
use Rattle.spl_program.specs.Texts as t
use Rattle.spl_program.specs.Programs.{texts_of, AreShort}
use Rattle.spl_program.specs.Steps.{UncutBy, UncutAmong, UnspelledBy, UnspelledAmong, IsReady, AreReady}
use Rattle.spl_program.proofs.ListLemmas.{cut_more, uncut_next, spelled_more, unspelled_next}

-- a fault that is handed on
pub handed : {X : Type 0} (P : ProgramFault → Type 0) (r : Result X ProgramFault) (e : ProgramFault) → IsErrAnd r (λ x. x ≡ e) → P e → IfErr r (λ x. P x)
handed P (Ok x) e h k = tt
handed P (Err x) e h k = subst P (sym h) k

-- ---- lists

-- one more of a list that is mapped
taken_more : {X Y : Type 0} (f : X → Y) (xs : List X) (i : ℕ) (x : X) → i < length xs → x ≡ get_or xs i x → map f (take (i + 1) xs) ≡ map f (take i xs) ++ f x ∷ []
taken_more f xs i x l e =
    ap (map f) (rw (add-one i) (take-suc xs i x l)) ∙ ap (λ y. map f (take i xs ++ y ∷ [])) (sym e) ∙ map_push f (take i xs) x

-- the list, cut at one of it
cut_at : {X Y : Type 0} (f : X → Y) (xs : List X) (i : ℕ) (x : X) → i < length xs → x ≡ get_or xs i x
    → map f xs ≡ map f (take i xs) ++ f x ∷ map f (drop (suc i) xs)
cut_at f xs i x l e =
    ap (map f) (sym (take-append-drop i xs) ∙ ap (λ ys. take i xs ++ ys) (drop-cons xs i x l ∙ ap (λ y. y ∷ drop (suc i) xs) (sym e)))
    ∙ map-append f (take i xs) (x ∷ drop (suc i) xs)

taken_length : {X Y : Type 0} (f : X → Y) (xs : List X) (i : ℕ) → i < length xs → length (map f (take i xs)) ≡ i
taken_length f xs i l = length-map (take i xs) f ∙ length-take-le i xs (omega (arith, l))

-- ---- tokens

pub short_at : (texts : List Chars) (i : ℕ) (x : Chars) → i < length texts → x ≡ get_or texts i x → AreShort texts → length x.bytes.items ≤ 1048576
short_at texts i x l e h = h i x (slice_get_read texts (length texts) i x refl l e)

pub cut_none : (xs : List Lexed) → xs ≡ [] → AreCut 1 [] (map listed_of xs)
cut_none xs e = subst (λ (ys : List Lexed). AreCut 1 [] (map listed_of ys)) (sym e) t.AreCut.none

pub ready_none : (xs : List Lexed) → xs ≡ [] → AreReady xs
ready_none xs e = subst AreReady (sym e) (λ k x d. cc)

ready_push : (xs : List Lexed) (x : Lexed) → AreReady xs → IsReady x → AreReady (xs ++ x ∷ [])
ready_push [] x a r zero y e = let same : x ≡ y = cc in subst IsReady same r
ready_push [] x a r (suc k) y e = cc
ready_push (z ∷ xs) x a r zero y e = a 0 y e
ready_push (z ∷ xs) x a r (suc k) y e = ready_push xs x (λ j w d. a (suc j) w d) r k y e

pub ready_more : (xs ys : List Lexed) (x : Lexed) → ys ≡ xs ++ x ∷ [] → AreReady xs → IsReady x → AreReady ys
ready_more xs ys x e a r = subst AreReady (sym e) (ready_push xs x a r)

pub cut_step : (texts : List Chars) (i n : ℕ) (text : List ℕ) (x : Chars) (xs ys : List Lexed) (y : Lexed) → i < length texts → x ≡ get_or texts i x → text ≡ x.bytes.items
    → n ≡ i + 1 → ys ≡ xs ++ y ∷ [] → AreCut 1 (texts_of (take i texts)) (map listed_of xs) → CutsWithin n 262144 text (listed_of y)
    → AreCut 1 (texts_of (take (i + 1) texts)) (map listed_of ys)
cut_step texts i n text x xs ys y l e b m p a v =
    let count = taken_length (λ (c : Chars). c.bytes.items) texts i l in
    subst (λ us. AreCut 1 us (map listed_of ys)) (sym (taken_more (λ (c : Chars). c.bytes.items) texts i x l e))
    (subst (λ (zs : List Lexed). AreCut 1 (texts_of (take i texts) ++ x.bytes.items ∷ []) (map listed_of zs)) (sym p)
    (subst (λ zs. AreCut 1 (texts_of (take i texts) ++ x.bytes.items ∷ []) zs) (sym (map_push listed_of xs y))
    (cut_more n x.bytes.items (listed_of y) a (omega (arith, count, m)) (subst (λ us. CutsWithin n 262144 us (listed_of y)) b v))))

pub uncut_step : (texts : List Chars) (i n : ℕ) (text : List ℕ) (x : Chars) (xs : List Lexed) (f : ProgramFault) → i < length texts → x ≡ get_or texts i x
    → text ≡ x.bytes.items → n ≡ i + 1 → AreCut 1 (texts_of (take i texts)) (map listed_of xs) → UncutBy n text f → UncutAmong 1 (texts_of texts) f
uncut_step texts i n text x xs (why.Text k at) l e b m a u =
    let count = taken_length (λ (c : Chars). c.bytes.items) texts i l in
    subst (λ us. FirstUncut 1 us k at) (sym (cut_at (λ (c : Chars). c.bytes.items) texts i x l e))
    (uncut_next n x.bytes.items (texts_of (drop (suc i) texts)) a (omega (arith, count, m)) (subst (λ us. IsUncut n us k at) b u))
uncut_step texts i n text x xs (why.Rule r at) l e b m a u = u
uncut_step texts i n text x xs (why.Limit r at) l e b m a u = u
uncut_step texts i n text x xs why.NoMemory l e b m a u = tt

-- ---- spelling

pub ready_at : (xs : List Lexed) (i : ℕ) (x : Lexed) → i < length xs → x ≡ get_or xs i x → AreReady xs → IsReady x
ready_at xs i x l e h = h i x (slice_get_read xs (length xs) i x refl l e)

pub units_none : (us : List SplUnit) → us ≡ [] → AreUnits [] (map source_of us)
units_none us e = subst (λ (vs : List SplUnit). AreUnits [] (map source_of vs)) (sym e) t.AreUnits.none

pub units_step : (xs : List Lexed) (i : ℕ) (x : Lexed) (us vs : List SplUnit) (u : SplUnit) → i < length xs → x ≡ get_or xs i x → vs ≡ us ++ u ∷ []
    → AreUnits (map listed_of (take i xs)) (map source_of us) → IsSpelled (listed_of x) (source_of u) → AreUnits (map listed_of (take (i + 1) xs)) (map source_of vs)
units_step xs i x us vs u l e p a v =
    subst (λ ys. AreUnits ys (map source_of vs)) (sym (taken_more listed_of xs i x l e))
    (subst (λ (ws : List SplUnit). AreUnits (map listed_of (take i xs) ++ listed_of x ∷ []) (map source_of ws)) (sym p)
    (subst (λ ws. AreUnits (map listed_of (take i xs) ++ listed_of x ∷ []) ws) (sym (map_push source_of us u)) (spelled_more (listed_of x) (source_of u) a v)))

pub unspelled_step : (xs : List Lexed) (i : ℕ) (x : Lexed) (us : List SplUnit) (f : ProgramFault) → i < length xs → x ≡ get_or xs i x
    → AreUnits (map listed_of (take i xs)) (map source_of us) → UnspelledBy (listed_of x) f → UnspelledAmong (map listed_of xs) f
unspelled_step xs i x us (why.Text k at) l e a u =
    subst (λ ys. FirstUnspelled ys k at) (sym (cut_at listed_of xs i x l e)) (unspelled_next (listed_of x) (map listed_of (drop (suc i) xs)) a u)
unspelled_step xs i x us (why.Rule r at) l e a u = u
unspelled_step xs i x us (why.Limit r at) l e a u = u
unspelled_step xs i x us why.NoMemory l e a u = tt
