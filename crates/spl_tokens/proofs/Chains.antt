-- Chains of readings, taken apart in another way.
use Rattle.std.proofs.Common.{◌≡◌, List, refl}
use Rattle.spl_tree.specs.Symbols.{Lexeme}
use Rattle.spl_reading.specs.Readers.{Outcome, Got, Bad, Deep, Parser, pure, followed, and_then}

-- what follows the last part of a chain follows the chain
along_at : {A B C : Type 0} (f : A → Parser B) (g : B → Parser C) (h : A → Parser C)
    → ((a : A) (us : List Lexeme) → h a us ≡ followed (f a) g us)
    → (o : Outcome A) → and_then o h ≡ and_then (and_then o f) g
unfolding followed and_then
along_at f g h e (Got a us) = e a us
along_at f g h e (Bad us) = refl
along_at f g h e (Deep us) = refl

pub along : {A B C : Type 0} (p : Parser A) (f : A → Parser B) (g : B → Parser C) (h : A → Parser C)
    → ((a : A) (us : List Lexeme) → h a us ≡ followed (f a) g us)
    → (ts : List Lexeme) → followed p h ts ≡ followed (followed p f) g ts
unfolding followed
along p f g h e ts = along_at f g h e (p ts)

-- and stands at its end
pub along_end : {A B : Type 0} (a : A) (g : A → Parser B) (us : List Lexeme) → g a us ≡ followed (pure a) g us
unfolding followed and_then pure
along_end a g us = refl

-- what is the same behind a part is the same
under_at : {A B : Type 0} (f g : A → Parser B) → ((a : A) (us : List Lexeme) → f a us ≡ g a us)
    → (o : Outcome A) → and_then o f ≡ and_then o g
unfolding and_then
under_at f g e (Got a us) = e a us
under_at f g e (Bad us) = refl
under_at f g e (Deep us) = refl

pub under : {A B : Type 0} (p : Parser A) (f g : A → Parser B) → ((a : A) (us : List Lexeme) → f a us ≡ g a us)
    → (ts : List Lexeme) → followed p f ts ≡ followed p g ts
unfolding followed
under p f g e ts = under_at f g e (p ts)
