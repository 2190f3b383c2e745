-- What the answers for tokens and spelling say of the text.
-- 1. where the text has a fault of tokens      (lex_told to lex_refuses)
-- 2. where its tokens spell a unit              (unit_told to unit_refuses)
-- 3. where they have a fault of spelling        (parse_told to parse_refuses)
use Rattle.std.proofs.Common.{ℕ, zero, suc, ◌≡◌, ◌≢◌, ◌<◌, Bool, List, [], ◌∷◌, map, length, drop, get_or, Some, Ok, Err, refl, ap, sym, subst, ◌∙◌, arith}
use Rattle.std.proofs.lemmas.List.{length-map}
use Rattle.spl_tree.specs.declared.names_and_places.At.{At}
use Rattle.spl_tree.specs.declared.tokens.Token.{Token}
use Rattle.spl_tree.specs.declared.tokens.Lexed.{Lexed}
use Rattle.spl_tree.specs.declared.units.SplUnit.{SplUnit}
use Rattle.spl_tree.specs.Symbols.{Lexeme, lexeme_of}
use Rattle.spl_tree.specs.Expressions.{place}
use Rattle.spl_tree.specs.DeclarationTrees.{UnitTree}
use Rattle.spl_tree.specs.Spells as tree
use Rattle.spl_tree.specs.Spells.{unit_tree}
use Rattle.spl_cuts.specs.declared.faults.LexKind.{LexKind}
use Rattle.spl_cuts.specs.declared.faults.LexKind.TheVariants as lex
use Rattle.spl_cuts.specs.declared.faults.LexFault.{LexFault}
use Rattle.spl_cuts.specs.Signs.{Listed}
use Rattle.spl_cuts.specs.Cutting.{CutsWithin, FirstFault}
use Rattle.spl_parser.specs.spl_reading.Readers.{Outcome, Got, Bad, Deep}
use Rattle.spl_parser.specs.spl_grammar.Answers.{end_of}
use Rattle.spl_parser.specs.spl_grammar.Verdicts.{Verdict, spelled, refused, too_deep}
use Rattle.spl_parser.specs.spl_tokens.declared.faults.ParseFault.{ParseFault}
use Rattle.spl_parser.specs.spl_tokens.declared.faults.ParseFault.TheVariants as parse
use Rattle.spl_lexer.specs.TokenViews.{listed_of}
use Rattle.spl_lexer.specs.ReaderViews as reader
use Rattle.spl_parser.specs.Answers as pa
use Rattle.spl_parser.specs.Answers.{tokens_of, Exact}
use Rattle.spl_tree.specs.declared.fault_kinds.FaultKind.{FaultKind}
use Rattle.spl_tree.specs.declared.fault_kinds.FaultKind.TheVariants as kind
use Rattle.spl_front.specs.declared.faults.UnitFault.{UnitFault}
use Rattle.spl_front.specs.declared.faults.UnitFault.TheVariants as fault
use Rattle.spl_front.specs.Kinds.{kind_of}
use Rattle.spl_cuts.specs.Lexemes.{lexemes}
use Rattle.spl_front.specs.Fronts.{Source, source_of, Spells, HasFault, of_tokens, of_spelling, of_depth, Tells, Gives, Refuses, with_kind, lex_fault_of, Stands, parse_fault_of}
use Rattle.spl_program.proofs.EndLemmas.{lexemes_are}

-- A fault of tokens.

lex_told_by : (unit : ℕ) (text : List ℕ) (k : LexKind) (at : At) → (k ≢ lex.NoMemory → FirstFault unit 262144 text k at)
    → Tells unit text (with_kind (kind_of k) at)
lex_told_by unit text lex.BadByte at h = of_tokens lex.BadByte refl (h (λ e. cc))
lex_told_by unit text lex.BadCommand at h = of_tokens lex.BadCommand refl (h (λ e. cc))
lex_told_by unit text lex.OpenString at h = of_tokens lex.OpenString refl (h (λ e. cc))
lex_told_by unit text lex.OpenComment at h = of_tokens lex.OpenComment refl (h (λ e. cc))
lex_told_by unit text lex.NameTooLong at h = of_tokens lex.NameTooLong refl (h (λ e. cc))
lex_told_by unit text lex.NumberTooLarge at h = of_tokens lex.NumberTooLarge refl (h (λ e. cc))
lex_told_by unit text lex.BadDefine at h = of_tokens lex.BadDefine refl (h (λ e. cc))
lex_told_by unit text lex.TooManyTokens at h = of_tokens lex.TooManyTokens refl (h (λ e. cc))
lex_told_by unit text lex.NoMemory at h = tt

pub lex_told : (unit : ℕ) (text : List ℕ) (f : LexFault) → (f.kind ≢ lex.NoMemory → FirstFault unit 262144 text f.kind f.at)
    → Tells unit text (lex_fault_of f)
lex_told unit text f h = lex_told_by unit text f.kind f.at h

-- want of memory is no fault
no_fault : (k : LexKind) (at : At) → k ≡ lex.NoMemory → with_kind (kind_of k) at ≡ fault.NoMemory
no_fault k at e = rw e refl

gives_nothing : (s : Source) (f : UnitFault) → f ≡ fault.NoMemory → Gives (Err f) s
gives_nothing s f e = rw e tt

refuses_nothing : (k : FaultKind) (at : At) (f : UnitFault) → f ≡ fault.NoMemory → Refuses (Err f) k at
refuses_nothing k at f e = rw e tt

-- a text that spells a unit has none
pub lex_gives : (unit : ℕ) (text : List ℕ) (f : LexFault)
    → ((x : Listed) → CutsWithin unit 262144 text x → reader.Gives (Err f) x)
    → (s : Source) → Spells unit text s → Gives (Err (lex_fault_of f)) s
lex_gives unit text f h s v = gives_nothing s (lex_fault_of f) (no_fault f.kind f.at (h v.listed v.cut))

-- and one that has this one has no other
same_fault : (k l : LexKind) (at there : At) (j : FaultKind) → kind_of l ≡ Some j → k ≡ l → at ≡ there
    → Refuses (Err (with_kind (kind_of k) at)) j there
same_fault k l at there j e f g = rw (f, e, g) (refl, refl)

lex_or_none : (f : LexFault) (l : LexKind) (at : At) (j : FaultKind) → kind_of l ≡ Some j
    → ((f.kind ≢ lex.NoMemory) → (f.kind ≡ l) × (f.at ≡ at)) → Refuses (Err (lex_fault_of f)) j at
lex_or_none f l at j e h = go f.kind h
  where
    go : (k : LexKind) → ((k ≢ lex.NoMemory) → (k ≡ l) × (f.at ≡ at)) → Refuses (Err (with_kind (kind_of k) f.at)) j at
    go lex.NoMemory h = tt
    go lex.BadByte h = let q = h (λ e. cc) in same_fault lex.BadByte l f.at at j e q.0 q.1
    go lex.BadCommand h = let q = h (λ e. cc) in same_fault lex.BadCommand l f.at at j e q.0 q.1
    go lex.OpenString h = let q = h (λ e. cc) in same_fault lex.OpenString l f.at at j e q.0 q.1
    go lex.OpenComment h = let q = h (λ e. cc) in same_fault lex.OpenComment l f.at at j e q.0 q.1
    go lex.NameTooLong h = let q = h (λ e. cc) in same_fault lex.NameTooLong l f.at at j e q.0 q.1
    go lex.NumberTooLarge h = let q = h (λ e. cc) in same_fault lex.NumberTooLarge l f.at at j e q.0 q.1
    go lex.BadDefine h = let q = h (λ e. cc) in same_fault lex.BadDefine l f.at at j e q.0 q.1
    go lex.TooManyTokens h = let q = h (λ e. cc) in same_fault lex.TooManyTokens l f.at at j e q.0 q.1

pub lex_refuses : (unit : ℕ) (text : List ℕ) (f : LexFault)
    → ((x : Listed) → CutsWithin unit 262144 text x → reader.Gives (Err f) x)
    → ((l : LexKind) (at : At) → FirstFault unit 262144 text l at → reader.Refuses (Err f) l at)
    → (j : FaultKind) (at : At) → HasFault unit text j at → Refuses (Err (lex_fault_of f)) j at
lex_refuses unit text f g h j at (of_tokens l e v) = lex_or_none f l at j e (h l at v)
lex_refuses unit text f g h j at (of_spelling x c v) = refuses_nothing j at (lex_fault_of f) (no_fault f.kind f.at (g x c))
lex_refuses unit text f g h j at (of_depth x c v) = refuses_nothing j at (lex_fault_of f) (no_fault f.kind f.at (g x c))

-- A unit.

pub unit_told : (unit : ℕ) (text : List ℕ) (x : Lexed) (u : SplUnit) → CutsWithin unit 262144 text (listed_of x)
    → pa.Answers x (Ok u) → Spells unit text (source_of u)
unit_told unit text x u c a = record {
  listed = listed_of x;
  cut = c;
  subprogram = a.0.subprogram;
  segments = a.0.segments;
  spelled = rw (← lexemes_are x) (spelled a.0.rest a.1);
}

-- the list is that of the text
same_list : {o : Outcome UnitTree} (x : Lexed) (y : Listed) → listed_of x ≡ y → Verdict (lexemes y) o → Verdict (tokens_of x) o
same_list {o} x y e v = subst (λ (ts : List Lexeme). Verdict ts o) (sym (lexemes_are x ∙ ap lexemes e)) v

got_tree : (s t : UnitTree) (r : List Lexeme) → Got s r ≡ Got t r → s ≡ t
got_tree s t r e = ap (tree_or t) e
  where
    tree_or : UnitTree → Outcome UnitTree → UnitTree
    tree_or u (Got v rest) = v
    tree_or u (Bad rest) = u
    tree_or u (Deep rest) = u

same_fields : (s t : Source) → s.subprogram ≡ t.subprogram → s.segments ≡ t.segments → s.tree ≡ t.tree → s ≡ t
same_fields s t e f g =
    ap (λ (b : Bool). record { subprogram = b; segments = s.segments; tree = s.tree }) e
    ∙ ap (λ (l : List (List ℕ)). record { subprogram = t.subprogram; segments = l; tree = s.tree }) f
    ∙ ap (λ (w : UnitTree). record { subprogram = t.subprogram; segments = t.segments; tree = w }) g

same_source : (u : SplUnit) (x : Lexed) (y : Listed) (s : Source) → tree.Spells u x → listed_of x ≡ y → s.subprogram ≡ y.subprogram
    → s.segments ≡ y.segments → s.tree ≡ unit_tree u → source_of u ≡ s
same_source u x y s v e f g h =
    same_fields (source_of u) s (v.subprogram ∙ ap (λ (l : Listed). l.subprogram) e ∙ sym f) (v.segments ∙ ap (λ (l : Listed). l.segments) e ∙ sym g) (sym h)

pub unit_gives : (unit : ℕ) (text : List ℕ) (x : Lexed) (u : SplUnit)
    → ((y : Listed) → CutsWithin unit 262144 text y → reader.Gives (Ok x) y) → pa.Answers x (Ok u) → Exact x (Ok u)
    → (s : Source) → Spells unit text s → Gives (Ok u) s
unit_gives unit text x u g a q s v = let e = g v.listed v.cut in
    same_source u x v.listed s a.0 e v.subprogram v.segments
    (got_tree s.tree (unit_tree u) [] (q (Got s.tree []) (same_list x v.listed e v.spelled)))

pub unit_refuses : (unit : ℕ) (text : List ℕ) (x : Lexed) (u : SplUnit)
    → ((y : Listed) → CutsWithin unit 262144 text y → reader.Gives (Ok x) y)
    → ((l : LexKind) (at : At) → FirstFault unit 262144 text l at → reader.Refuses (Ok x) l at) → Exact x (Ok u)
    → (j : FaultKind) (at : At) → HasFault unit text j at → Refuses (Ok u) j at
unit_refuses unit text x u g h q j at (of_tokens l e v) = h l at v
unit_refuses unit text x u g h q j at (of_spelling {t = t} {rest = rest} y c v) =
    let e = q (Bad (t ∷ rest)) (same_list x y (g y c) v) in cc
unit_refuses unit text x u g h q j at (of_depth {t = t} {rest = rest} y c v) =
    let e = q (Deep (t ∷ rest)) (same_list x y (g y c) v) in cc

-- A fault of spelling.

-- it stands at a token
pub parse_stands : (x : Lexed) (f : ParseFault) → pa.Answers x (Err f) → Stands x f
parse_stands x (parse.Syntax at) a = let l = length-map x.tokens.items lexeme_of in omega (arith, a.0)
parse_stands x (parse.TooDeep at) a = let l = length-map x.tokens.items lexeme_of in omega (arith, a.0)
parse_stands x parse.NoMemory a = tt

-- whose place is the fault's
placed_at : (ts : List Token) (n : ℕ) (d : Token) → n < length ts → place (drop n (map lexeme_of ts)) ≡ (get_or ts n d).at
placed_at [] n d h = absurd (omega (arith, h))
placed_at (t ∷ ts) zero d h = refl
placed_at (t ∷ ts) (suc n) d h = placed_at ts n d (omega (arith, h))

pub syntax_placed : (x : Lexed) (f : ParseFault) (at : ℕ) (t : Token) → f ≡ parse.Syntax at → Stands x f → t ≡ get_or x.tokens.items at t
    → fault.Fault kind.Syntax t.at ≡ parse_fault_of x f
syntax_placed x f at t e h g =
    ap (fault.Fault kind.Syntax) (ap (λ (u : Token). u.at) g ∙ sym (placed_at x.tokens.items at t (subst (Stands x) e h))) ∙ ap (parse_fault_of x) (sym e)

pub depth_placed : (x : Lexed) (f : ParseFault) (at : ℕ) (t : Token) → f ≡ parse.TooDeep at → Stands x f → t ≡ get_or x.tokens.items at t
    → fault.Fault kind.TooDeep t.at ≡ parse_fault_of x f
depth_placed x f at t e h g =
    ap (fault.Fault kind.TooDeep) (ap (λ (u : Token). u.at) g ∙ sym (placed_at x.tokens.items at t (subst (Stands x) e h))) ∙ ap (parse_fault_of x) (sym e)

bad_told : {unit : ℕ} {text : List ℕ} {us : List Lexeme} (x : Listed) → CutsWithin unit 262144 text x
    → Verdict (lexemes x) (Bad us) → HasFault unit text kind.Syntax (place us)
bad_told x c (refused o d n) = of_spelling x c (refused o d n)

deep_told : {unit : ℕ} {text : List ℕ} {us : List Lexeme} (x : Listed) → CutsWithin unit 262144 text x
    → Verdict (lexemes x) (Deep us) → HasFault unit text kind.TooDeep (place us)
deep_told x c (too_deep front e o l d) = of_depth x c (too_deep front e o l d)

pub parse_told : (unit : ℕ) (text : List ℕ) (x : Lexed) (f : ParseFault) → CutsWithin unit 262144 text (listed_of x)
    → pa.Answers x (Err f) → Tells unit text (parse_fault_of x f)
parse_told unit text x (parse.Syntax at) c a =
    bad_told {us = drop at (tokens_of x)} (listed_of x) c (subst (λ (ts : List Lexeme). Verdict ts (Bad (drop at (tokens_of x)))) (lexemes_are x) a.1)
parse_told unit text x (parse.TooDeep at) c a =
    deep_told {us = drop at (tokens_of x)} (listed_of x) c (subst (λ (ts : List Lexeme). Verdict ts (Deep (drop at (tokens_of x)))) (lexemes_are x) a.1)
parse_told unit text x parse.NoMemory c a = tt

pub parse_gives : (unit : ℕ) (text : List ℕ) (x : Lexed) (f : ParseFault)
    → ((y : Listed) → CutsWithin unit 262144 text y → reader.Gives (Ok x) y) → Exact x (Err f)
    → (s : Source) → Spells unit text s → Gives (Err (parse_fault_of x f)) s
parse_gives unit text x (parse.Syntax at) g q s v =
    let e = q (Got s.tree []) (same_list x v.listed (g v.listed v.cut) v.spelled) in cc
parse_gives unit text x (parse.TooDeep at) g q s v =
    let e = q (Got s.tree []) (same_list x v.listed (g v.listed v.cut) v.spelled) in cc
parse_gives unit text x parse.NoMemory g q s v = tt

pub parse_refuses : (unit : ℕ) (text : List ℕ) (x : Lexed) (f : ParseFault)
    → ((y : Listed) → CutsWithin unit 262144 text y → reader.Gives (Ok x) y)
    → ((l : LexKind) (at : At) → FirstFault unit 262144 text l at → reader.Refuses (Ok x) l at) → Exact x (Err f)
    → (j : FaultKind) (at : At) → HasFault unit text j at → Refuses (Err (parse_fault_of x f)) j at
parse_refuses unit text x (parse.Syntax n) g h q j at (of_tokens l e v) = absurd (h l at v)
parse_refuses unit text x (parse.Syntax n) g h q j at (of_spelling {t = t} {rest = rest} y c v) =
    let e = q (Bad (t ∷ rest)) (same_list x y (g y c) v) in (refl, sym (ap (λ o. place (end_of o)) e))
parse_refuses unit text x (parse.Syntax n) g h q j at (of_depth {t = t} {rest = rest} y c v) =
    let e = q (Deep (t ∷ rest)) (same_list x y (g y c) v) in cc
parse_refuses unit text x (parse.TooDeep n) g h q j at (of_tokens l e v) = absurd (h l at v)
parse_refuses unit text x (parse.TooDeep n) g h q j at (of_spelling {t = t} {rest = rest} y c v) =
    let e = q (Bad (t ∷ rest)) (same_list x y (g y c) v) in cc
parse_refuses unit text x (parse.TooDeep n) g h q j at (of_depth {t = t} {rest = rest} y c v) =
    let e = q (Deep (t ∷ rest)) (same_list x y (g y c) v) in (refl, sym (ap (λ o. place (end_of o)) e))
parse_refuses unit text x parse.NoMemory g h q j at v = tt
