-- Every answer of a reader is explained: what is read is spelled; a fault comes behind tokens that open the part, with
-- no more
-- open than may be; and where it is too deep, the tokens up to and with that one open more.
use Rattle.std.proofs.Common.{ℕ, ◌≡◌, ◌<◌, ◌≤◌, Bool, true, false, if◌then◌else◌, List, [], ◌∷◌, Option, Some, None, refl}
use Rattle.spl_reading.specs.spl_tree.declared.symbols.Symbol.{Symbol}
use Rattle.spl_reading.specs.spl_tree.declared.symbols.Symbol.TheVariants as s
use Rattle.spl_reading.specs.spl_tree.Symbols.{Lexeme, Is}
use Rattle.spl_reading.specs.spl_tree.OpenExpressions.{Part, Step, Opens, here, inner, OpensAt, nesting}
use Rattle.spl_reading.specs.Readers.{Outcome, Got, Bad, Deep, Parser, and_then, followed, pure, refuse, by_symbol, take, allowed, same_symbol, expect, named_number, numbered}
use Rattle.spl_reading.proofs.SameSymbol.{same_is}
pub use Rattle.spl_grammar.specs.Answers.{Explains, got, bad, deep}

-- one step in front of a chain
abbrev pub stepped : {p q : Part} {d n j k : ℕ} {ts mid rest : List Lexeme} → Step p d n ts q j k mid
    → OpensAt q j k mid rest → OpensAt p d n ts rest
stepped step o = record {
  part = o.part;
  constructs = o.constructs;
  operators = o.operators;
  chain = inner step o.chain;
}

abbrev pub at_here : (p : Part) (d n : ℕ) (ts : List Lexeme) → OpensAt p d n ts ts
at_here p d n ts = record { part = p; constructs = d; operators = n; chain = here }

-- what explains the open part explains the production around it
pub lift : {most : ℕ} {A B : Type 0} {V : A → List Lexeme → Type 0} {W : B → List Lexeme → Type 0} {p q : Part}
    {d n j k : ℕ} {ts mid : List Lexeme} (f : A → Parser B)
    → Step p d n ts q j k mid → (o : Outcome A) → Explains most V q j k mid o
    → ((a : A) (rest : List Lexeme) → V a rest → Explains most W p d n ts (f a rest))
    → Explains most W p d n ts (and_then o f)
unfolding and_then
lift f step _ (got v) h = h _ _ v
lift f step _ (bad o l) h = bad (stepped step o) l
lift f step _ (deep o l) h = deep (stepped step o) l

-- the same reader behind a step, and what is then spelled
pub explain_then : {most : ℕ} {A B : Type 0} {V : A → List Lexeme → Type 0} {W : B → List Lexeme → Type 0} {p q : Part}
    {d n j k : ℕ} {ts mid : List Lexeme} (r : Parser A) (f : A → Parser B)
    → Step p d n ts q j k mid → Explains most V q j k mid (r mid)
    → ((a : A) (rest : List Lexeme) → V a rest → Explains most W p d n ts (f a rest))
    → Explains most W p d n ts (followed r f mid)
unfolding followed
explain_then r f step e h = lift f step (r _) e h

explain_take : {most : ℕ} {B : Type 0} {W : B → List Lexeme → Type 0} {p : Part} {d n : ℕ} {ts : List Lexeme}
    (f : Lexeme → Parser B) (t : Lexeme) (us : List Lexeme)
    → Explains most W p d n ts (f t us) → Explains most W p d n ts (and_then (take (t ∷ us)) f)
unfolding and_then take
explain_take f t us h = h

explain_refuse : {most : ℕ} {A B : Type 0} {W : B → List Lexeme → Type 0} {p : Part} {d n : ℕ} {ts : List Lexeme}
    (f : A → Parser B) (us : List Lexeme) (o : OpensAt p d n ts us)
    → nesting o.constructs o.operators ≤ most → Explains most W p d n ts (and_then (refuse us) f)
unfolding and_then refuse
explain_refuse f us o l = bad o l

-- a token of the production, which is this symbol
pub explain_expect : {most : ℕ} {B : Type 0} {W : B → List Lexeme → Type 0} {p : Part} {d n : ℕ} {ts : List Lexeme}
    (k : Symbol) (f : Lexeme → Parser B) (us : List Lexeme)
    (o : OpensAt p d n ts us) → nesting o.constructs o.operators ≤ most
    → ((t : Lexeme) (rest : List Lexeme) → us ≡ t ∷ rest → Is k t → Explains most W p d n ts (f t rest))
    → Explains most W p d n ts (followed (expect k) f us)
unfolding followed expect by_symbol and_then
explain_expect k f [] o l h = bad o l
explain_expect {most = most} {W = W} {p = p} {d = d} {n = n} {ts = ts} k f (t ∷ us) o l h = go (same_symbol t.symbol k)
    refl
  where
    go : (b : Bool) → same_symbol t.symbol k ≡ b
        → Explains most W p d n ts (and_then ((if b then take else refuse) (t ∷ us)) f)
    go true e = explain_take f t us (h t us refl (same_is t.symbol k e))
    go false e = explain_refuse f (t ∷ us) o l

-- what is read next, in the same production
next_of : {most : ℕ} {A B : Type 0} {V : A → List Lexeme → Type 0} {W : B → List Lexeme → Type 0} {p : Part} {d n : ℕ}
    {ts : List Lexeme} (f : A → Parser B)
    → (o : Outcome A) → Explains most V p d n ts o
    → ((a : A) (rest : List Lexeme) → V a rest → Explains most W p d n ts (f a rest))
    → Explains most W p d n ts (and_then o f)
unfolding and_then
next_of f _ (got v) h = h _ _ v
next_of f _ (bad o l) h = bad o l
next_of f _ (deep o l) h = deep o l

pub explain_next : {most : ℕ} {A B : Type 0} {V : A → List Lexeme → Type 0} {W : B → List Lexeme → Type 0} {p : Part}
    {d n : ℕ} {ts : List Lexeme} (r : Parser A) (f : A → Parser B)
    (us : List Lexeme) → Explains most V p d n ts (r us)
    → ((a : A) (rest : List Lexeme) → V a rest → Explains most W p d n ts (f a rest))
    → Explains most W p d n ts (followed r f us)
unfolding followed
explain_next r f us e h = next_of f (r us) e h

pub explain_pure : {most : ℕ} {A : Type 0} {W : A → List Lexeme → Type 0} {p : Part} {d n : ℕ} {ts : List Lexeme}
    (a : A) (rest : List Lexeme) → W a rest → Explains most W p d n ts (pure a rest)
unfolding pure
explain_pure a rest w = got w

-- a refusal
pub explain_bad : {most : ℕ} {A : Type 0} {W : A → List Lexeme → Type 0} {p : Part} {d n : ℕ} {ts : List Lexeme}
    (us : List Lexeme) (o : OpensAt p d n ts us)
    → nesting o.constructs o.operators ≤ most → Explains most W p d n ts (refuse us)
unfolding refuse
explain_bad us o l = bad o l

-- a choice by the first symbol
pub explain_symbol : {most : ℕ} {A : Type 0} {W : A → List Lexeme → Type 0} {p : Part} {d n : ℕ} {ts : List Lexeme}
    (f : Symbol → Parser A) (us : List Lexeme) (o : OpensAt p d n ts us)
    → nesting o.constructs o.operators ≤ most
    → ((t : Lexeme) (rest : List Lexeme) → us ≡ t ∷ rest → Explains most W p d n ts (f t.symbol (t ∷ rest)))
    → Explains most W p d n ts (by_symbol f us)
unfolding by_symbol
explain_symbol f [] o l h = bad o l
explain_symbol f (t ∷ us) o l h = h t us refl

-- a choice by a test
pub explain_if : {most : ℕ} {A : Type 0} {W : A → List Lexeme → Type 0} {part : Part} {d n : ℕ} {ts : List Lexeme}
    (b : Bool) (p q : Parser A) (us : List Lexeme)
    → (b ≡ true → Explains most W part d n ts (p us)) → (b ≡ false → Explains most W part d n ts (q us))
    → Explains most W part d n ts ((if b then p else q) us)
explain_if true p q us h k = h refl
explain_if false p q us h k = k refl

-- a token that opens a construct: where no more may be open, the chain over it is too deep
pub explain_allowed : {most : ℕ} {B : Type 0} {W : B → List Lexeme → Type 0} {p : Part} {d n : ℕ} {ts : List Lexeme}
    (b : Bool) (f : Lexeme → Parser B) (t : Lexeme) (us : List Lexeme)
    → (b ≡ true → Explains most W p d n ts (f t us)) → (o : OpensAt p d n ts us)
    → (b ≡ false → most < nesting o.constructs o.operators)
    → Explains most W p d n ts (followed (allowed b) f (t ∷ us))
unfolding followed allowed and_then take by_symbol
explain_allowed true f t us h o l = h refl
explain_allowed false f t us h o l = deep o (l refl)

-- one chain behind another
pub along : {p q r : Part} {d n j k l m : ℕ} {ts mid rest : List Lexeme} → Opens p d n ts q j k mid
    → Opens q j k mid r l m rest → Opens p d n ts r l m rest
along here b = b
along (inner step a) b = inner step (along a b)

abbrev pub reached : {p q : Part} {d n j k : ℕ} {ts mid rest : List Lexeme} → Opens p d n ts q j k mid
    → OpensAt q j k mid rest → OpensAt p d n ts rest
reached c o = record { part = o.part; constructs = o.constructs; operators = o.operators; chain = along c o.chain }

lift_along : {most : ℕ} {A B : Type 0} {V : A → List Lexeme → Type 0} {W : B → List Lexeme → Type 0} {p q : Part}
    {d n j k : ℕ} {ts mid : List Lexeme} (f : A → Parser B)
    → Opens p d n ts q j k mid → (o : Outcome A) → Explains most V q j k mid o
    → ((a : A) (rest : List Lexeme) → V a rest → Explains most W p d n ts (f a rest))
    → Explains most W p d n ts (and_then o f)
unfolding and_then
lift_along f c _ (got v) h = h _ _ v
lift_along f c _ (bad o l) h = bad (reached c o) l
lift_along f c _ (deep o l) h = deep (reached c o) l

-- a part at the end of a chain, and what is then spelled
pub explain_along : {most : ℕ} {A B : Type 0} {V : A → List Lexeme → Type 0} {W : B → List Lexeme → Type 0}
    {p q : Part} {d n j k : ℕ} {ts mid : List Lexeme} (r : Parser A) (f : A → Parser B)
    → Opens p d n ts q j k mid → Explains most V q j k mid (r mid)
    → ((a : A) (rest : List Lexeme) → V a rest → Explains most W p d n ts (f a rest))
    → Explains most W p d n ts (followed r f mid)
unfolding followed
explain_along r f c e h = lift_along f c (r _) e h

assoc_go : {A B C : Type 0} (f : A → Parser B) (h : B → Parser C) (o : Outcome A)
    → and_then o (λ a. followed (f a) h) ≡ and_then (and_then o f) h
unfolding followed and_then
assoc_go f h (Got a rest) = refl
assoc_go f h (Bad rest) = refl
assoc_go f h (Deep rest) = refl

-- readers in a row, however they are grouped
pub followed_assoc : {A B C : Type 0} (r : Parser A) (f : A → Parser B) (h : B → Parser C) (ts : List Lexeme)
    → followed r (λ a. followed (f a) h) ts ≡ followed (followed r f) h ts
unfolding followed
followed_assoc r f h ts = assoc_go f h (r ts)

-- what explains an open part, said of the production around it
pub recast : {most : ℕ} {A : Type 0} {V W : A → List Lexeme → Type 0} {p q : Part} {d n j k : ℕ} {ts mid : List Lexeme}
    → Step p d n ts q j k mid → (o : Outcome A) → Explains most V q j k mid o
    → ((a : A) (rest : List Lexeme) → V a rest → W a rest) → Explains most W p d n ts o
recast step _ (got v) h = got (h _ _ v)
recast step _ (bad o l) h = bad (stepped step o) l
recast step _ (deep o l) h = deep (stepped step o) l

-- a name that a table has a number for
pub explain_named : {most : ℕ} {B : Type 0} {W : B → List Lexeme → Type 0} {part : Part} {j n : ℕ} {ts : List Lexeme}
    (table : List ℕ → Option ℕ) (f : ℕ → Parser B) (us : List Lexeme)
    (o : OpensAt part j n ts us) → nesting o.constructs o.operators ≤ most
    → ((k : ℕ) (t : Lexeme) (rest : List Lexeme) → us ≡ t ∷ rest → Is s.Name t → table t.letters ≡ Some k
    → Explains most W part j n ts (f k rest))
    → Explains most W part j n ts (followed (named_number table) f us)
unfolding followed named_number numbered and_then take pure refuse
explain_named table f [] o l h = bad o l
explain_named {most = most} {W = W} {part = part} {j = j} {n = n} {ts = ts} table f (t ∷ us) o l h = go
    (same_symbol t.symbol s.Name) refl (table t.letters) refl
  where
    go : (b : Bool) → same_symbol t.symbol s.Name ≡ b → (v : Option ℕ) → table t.letters ≡ v
        → Explains most W part j n ts (and_then (if b then numbered v (t ∷ us) else Bad (t ∷ us)) f)
    go true e (Some k) q = h k t us refl (same_is t.symbol s.Name e) q
    go true e None q = bad o l
    go false e v q = bad o l

-- what is read, said otherwise
pub explain_as : {most : ℕ} {A : Type 0} {V W : A → List Lexeme → Type 0} {p : Part} {d n : ℕ} {ts : List Lexeme}
    (o : Outcome A) → Explains most V p d n ts o
    → ((a : A) (rest : List Lexeme) → V a rest → W a rest) → Explains most W p d n ts o
explain_as _ (got v) h = got (h _ _ v)
explain_as _ (bad o l) h = bad o l
explain_as _ (deep o l) h = deep o l

-- behind a token that is taken in any case
pub taken_explained : {most : ℕ} {A : Type 0} {W : A → List Lexeme → Type 0} {p : Part} {d n : ℕ}
    {ts rest : List Lexeme} {t : Lexeme} (f : Lexeme → Parser A)
    → Explains most W p d n ts (f t rest) → Explains most W p d n ts (followed take f (t ∷ rest))
unfolding followed take and_then
taken_explained f h = h
