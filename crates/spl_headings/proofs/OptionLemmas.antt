-- An option is looked up by the letters of the next token.
use Rattle.std.proofs.Common.{ℕ, ◌≡◌, Bool, true, false, if◌then◌else◌, Some, None, List, [], ◌∷◌, ap}
use Rattle.spl_tree.specs.declared.symbols.Symbol.TheVariants as s
use Rattle.spl_tree.specs.Symbols.{Lexeme}
use Rattle.spl_tree.specs.Declarations.{Options, option_of}
use Rattle.spl_reading.specs.Readers.{Got, Bad, Deep, pure, refuse, same_symbol}
use Rattle.spl_reading.specs.ReadDeclarations.{by_token, option_behind, option_among}
use Rattle.spl_tokens.specs.declared.faults.Fault.{Fault}
use Rattle.spl_tokens.specs.declared.faults.Fault.TheVariants.{Syntax, TooDeep, NoMemory}
use Rattle.spl_tokens.specs.Reads.{Fails, named, named_by}

pub option_named : (a : Options) (ts us : List Lexeme) (letters : List ℕ) → named ts ≡ Got letters us
    → option_behind a ts ≡ option_among a (option_of letters) ts
unfolding named option_behind by_token pure refuse
option_named a [] us letters e = cc
option_named a (t ∷ ts) us letters e = go (same_symbol t.symbol s.Name) e
  where
    go : (b : Bool) → named_by (if b then Some t.letters else None) (t ∷ ts) ≡ Got letters us
        → (if b then option_among a (option_of t.letters) else refuse) (t ∷ ts)
        ≡ option_among a (option_of letters) (t ∷ ts)
    go true e = let l : t.letters ≡ letters = cc in ap (λ l. option_among a (option_of l) (t ∷ ts)) l
    go false e = cc

pub option_unnamed : (a : Options) (ts us : List Lexeme) (e : Fault) → Fails (named ts) e us
    → Fails (option_behind a ts) e us
unfolding named option_behind by_token pure refuse
option_unnamed a [] us Syntax h = cc
option_unnamed a [] us TooDeep h = cc
option_unnamed a [] us NoMemory h = tt
option_unnamed a (t ∷ ts) us NoMemory h = tt
option_unnamed a (t ∷ ts) us Syntax h = go (same_symbol t.symbol s.Name) h
  where
    go : (b : Bool) → named_by (if b then Some t.letters else None) (t ∷ ts) ≡ Bad us
        → (if b then option_among a (option_of t.letters) else refuse) (t ∷ ts) ≡ Bad us
    go true e = cc
    go false e = cc
option_unnamed a (t ∷ ts) us TooDeep h = go (same_symbol t.symbol s.Name) h
  where
    go : (b : Bool) → named_by (if b then Some t.letters else None) (t ∷ ts) ≡ Deep us
        → (if b then option_among a (option_of t.letters) else refuse) (t ∷ ts) ≡ Deep us
    go true e = cc
    go false e = cc

pub ruleset options = (option_named, option_unnamed)
