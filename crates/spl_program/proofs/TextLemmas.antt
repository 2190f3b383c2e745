-- What the tokens of a text, and what they spell, say of the text.
use Rattle.std.proofs.Common.{ℕ, zero, suc, ◌≡◌, ◌<◌, List, [], ◌∷◌, map, length, drop, get_or, Ok, Err, refl, ap, sym, subst, ◌∙◌, arith}
use Rattle.std.proofs.lemmas.List.{length-map}
use Rattle.spl_tree.specs.declared.tokens.Token.{Token}
use Rattle.spl_tree.specs.declared.tokens.Lexed.{Lexed}
use Rattle.spl_tree.specs.declared.units.SplUnit.{SplUnit}
use Rattle.spl_tree.specs.declared.fault_kinds.FaultKind.TheVariants as kind
use Rattle.spl_tree.specs.Symbols.{Lexeme, lexeme_of}
use Rattle.spl_tree.specs.Expressions.{place}
use Rattle.spl_cuts.specs.Signs.{Listed}
use Rattle.spl_cuts.specs.Whole.{IsWhole}
use Rattle.spl_cuts.specs.Lexemes.{lexemes}
use Rattle.spl_sound.specs.spl_reading.Readers.{Bad, Deep}
use Rattle.spl_sound.specs.spl_grammar.Verdicts.{Verdict, spelled, refused, too_deep}
use Rattle.spl_parser.specs.spl_tokens.declared.faults.ParseFault.TheVariants as parse
use Rattle.spl_lexer.specs.TokenViews.{placed_of, listed_of}
use Rattle.spl_parser.specs.Answers as pa
use Rattle.spl_parser.specs.Answers.{tokens_of}
use Rattle.spl_sound.specs.Spelled.{source_of}
use Rattle.spl_program.specs.Texts.{IsSpelled, IsUnspelled}
use Rattle.spl_program.specs.Texts as t
use Rattle.spl_program.specs.Steps.{IsReady}
use Rattle.spl_program.proofs.EndLemmas.{lexemes_are, ended}

-- tokens of a text can be parsed
pub ready : (unit : ℕ) (x : Lexed) → IsWhole unit 262144 (listed_of x) → IsReady x
ready unit x w = record {
  few = let l = length-map x.tokens.items placed_of in let f = w.few in omega (arith, l, f);
  ended = ended x w.ends;
}

-- a unit that they spell
pub spelled_so : (x : Lexed) (u : SplUnit) → pa.Answers x (Ok u) → IsSpelled (listed_of x) (source_of u)
spelled_so x u a = record {
  subprogram = a.0.subprogram;
  segments = a.0.segments;
  spelled = rw (← lexemes_are x) (spelled a.0.rest a.1);
}

-- the place of a token
placed_at : (ts : List Token) (n : ℕ) (d : Token) → n < length ts → place (drop n (map lexeme_of ts)) ≡ (get_or ts n d).at
placed_at [] n d h = absurd (omega (arith, h))
placed_at (t ∷ ts) zero d h = refl
placed_at (t ∷ ts) (suc n) d h = placed_at ts n d (omega (arith, h))

token_at : (x : Lexed) (n : ℕ) (t : Token) → n < length (tokens_of x) → t ≡ get_or x.tokens.items n t → place (drop n (tokens_of x)) ≡ t.at
token_at x n t l e = let m = length-map x.tokens.items lexeme_of in placed_at x.tokens.items n t (omega (arith, m, l)) ∙ ap (λ (s : Token). s.at) (sym e)

refused_by : {us : List Lexeme} (x : Listed) → Verdict (lexemes x) (Bad us) → IsUnspelled x kind.Syntax (place us)
refused_by x (refused o d n) = t.IsUnspelled.refused (refused o d n)

deep_by : {us : List Lexeme} (x : Listed) → Verdict (lexemes x) (Deep us) → IsUnspelled x kind.TooDeep (place us)
deep_by x (too_deep front e o l d) = t.IsUnspelled.too_deep (too_deep front e o l d)

-- a token with which they spell none
pub syntax_so : (x : Lexed) (n : ℕ) (t : Token) → pa.Answers x (Err (parse.Syntax n)) → t ≡ get_or x.tokens.items n t → IsUnspelled (listed_of x) kind.Syntax t.at
syntax_so x n t a e =
    subst (IsUnspelled (listed_of x) kind.Syntax) (token_at x n t a.0 e)
    (refused_by {us = drop n (tokens_of x)} (listed_of x) (subst (λ (ts : List Lexeme). Verdict ts (Bad (drop n (tokens_of x)))) (lexemes_are x) a.1))

pub depth_so : (x : Lexed) (n : ℕ) (t : Token) → pa.Answers x (Err (parse.TooDeep n)) → t ≡ get_or x.tokens.items n t → IsUnspelled (listed_of x) kind.TooDeep t.at
depth_so x n t a e =
    subst (IsUnspelled (listed_of x) kind.TooDeep) (token_at x n t a.0 e)
    (deep_by {us = drop n (tokens_of x)} (listed_of x) (subst (λ (ts : List Lexeme). Verdict ts (Deep (drop n (tokens_of x)))) (lexemes_are x) a.1))

-- the token stands there
pub syntax_within : (x : Lexed) (n : ℕ) → pa.Answers x (Err (parse.Syntax n)) → n < length x.tokens.items
syntax_within x n a = let m = length-map x.tokens.items lexeme_of in let l = a.0 in omega (arith, m, l)

pub depth_within : (x : Lexed) (n : ℕ) → pa.Answers x (Err (parse.TooDeep n)) → n < length x.tokens.items
depth_within x n a = let m = length-map x.tokens.items lexeme_of in let l = a.0 in omega (arith, m, l)
