-- What the reading of a text's tokens says of them.
use Rattle.std.proofs.Common.{ℕ, ◌≡◌, ◌<◌, ◌≤◌, ◌-◌, suc, List, [], ◌∷◌, length, drop, map, Ok, Err, refl, sym, ap, ◌∙◌, arith}
use Rattle.spl_tree.specs.declared.tokens.Lexed.{Lexed}
use Rattle.spl_tree.specs.declared.units.SplUnit.{SplUnit}
use Rattle.spl_tree.specs.declared.tokens.Token.{Token}
use Rattle.std.proofs.lemmas.List.{length-map}
use Rattle.spl_units.specs.declared.units.UnitParts.{UnitParts}
use Rattle.spl_units.specs.UnitParts.{parts}
use Rattle.spl_tokens.specs.declared.faults.ParseFault.{ParseFault}
use Rattle.spl_tree.specs.Symbols.{Lexeme, lexeme_of}
use Rattle.spl_tree.specs.OpenExpressions.{limit}
use Rattle.spl_tree.specs.DeclarationTrees.{UnitTree}
use Rattle.spl_tree.specs.Units.{Unit_of}
use Rattle.spl_tree.specs.Views.{letters}
use Rattle.spl_tree.specs.Spells.{unit_tree}
use Rattle.spl_grammar.specs.spl_reading.Readers.{Outcome, Got, Bad, Deep}
use Rattle.spl_grammar.specs.spl_reading.ReadDeclarations.{unit}
use Rattle.spl_grammar.specs.Ends.{Ended}
use Rattle.spl_grammar.specs.Verdicts.{NotTooDeep, Verdict, spelled, refused, too_deep}
use Rattle.spl_grammar.proofs.LocalReaders.{Left, entire, cut, end_of}
use Rattle.spl_grammar.proofs.LocalDeclarations.{local_unit}
use Rattle.spl_grammar.proofs.VerdictLaws.{verdict_exact, one_verdict}
use Rattle.spl_parser.specs.Answers.{tokens_of, placed, Answers, Exact}
use Rattle.spl_tokens.specs.declared.faults.Fault.{Fault}
use Rattle.spl_tokens.specs.declared.faults.Fault.TheVariants as fault
use Rattle.spl_tokens.specs.Reads.{Fails}
use Rattle.spl_tokens.specs.declared.faults.ParseFault.TheVariants.{Syntax, TooDeep}

-- what is left stands at its place
left_shorter : {us ts : List Lexeme} → Left us ts → length us ≤ length ts
left_shorter entire = omega arith
left_shorter (cut a) = let b = left_shorter a in omega arith

left_at : {us ts : List Lexeme} → Left us ts → us ≡ drop (length ts - length us) ts
left_at {us = us} entire = let e : length us - length us ≡ 0 = omega arith in rw e refl
left_at {us = us} (cut {t = t} {ts = ts} a) = let b = left_shorter a in
    let e : length (t ∷ ts) - length us ≡ suc (length ts - length us) = omega arith in rw e (left_at a)

-- the tokens at which a reading stops
stops_at : (ts us : List Lexeme) (o : Outcome UnitTree) → unit limit ts ≡ o → end_of o ≡ us
    → us ≡ drop (length ts - length us) ts
stops_at ts us o q e = left_at (rw (← e, ← q) ((local_unit limit).left ts))

-- the list's verdict
verdict : {ts : List Lexeme} (o : Outcome UnitTree) → Ended ts → unit limit ts ≡ o → Verdict ts o
verdict o e q = (verdict_exact o e).0 q

-- Units.

got_spelled : {ts us : List Lexeme} {u : UnitTree} → Verdict ts (Got u us)
    → (us ≡ []) × Unit_of u ts × NotTooDeep [] ts
got_spelled (spelled v n) = (refl, v, n)

pub parsed : (lexed : Lexed) (u : SplUnit) (t : UnitTree) (us : List Lexeme) → Ended (tokens_of lexed)
    → unit limit (tokens_of lexed) ≡ Got t us → unit_tree u ≡ t
    → u.subprogram ≡ lexed.subprogram → map letters u.segments.items ≡ map letters lexed.segments.items
    → Answers lexed (Ok u)
parsed lexed u t us e q same p s = let v = got_spelled (verdict (Got t us) e q) in
    (record { subprogram = p; segments = s; rest = rw same v.1 }, v.2)

pub parsed_exactly : (lexed : Lexed) (u : SplUnit) (t : UnitTree) (us : List Lexeme) → Ended (tokens_of lexed)
    → unit limit (tokens_of lexed) ≡ Got t us → unit_tree u ≡ t
    → Exact lexed (Ok u)
parsed_exactly lexed u t us e q same o w = let v = verdict (Got t us) e q in let x = got_spelled v in
    one_verdict w v ∙ ap (λ us. Got t us) x.0 ∙ ap (λ t. Got t []) (sym same)

-- Faults.

bad_long : {ts us : List Lexeme} → Verdict ts (Bad us) → 0 < length us
bad_long (refused o d n) = omega arith

deep_long : {ts us : List Lexeme} → Verdict ts (Deep us) → 0 < length us
deep_long (too_deep front e o d n) = omega arith

pub refused_at : (lexed : Lexed) (us : List Lexeme) → Ended (tokens_of lexed) → unit limit (tokens_of lexed) ≡ Bad us
    → Answers lexed (Err (Syntax (length (tokens_of lexed) - length us)))
    × Exact lexed (Err (Syntax (length (tokens_of lexed) - length us)))
refused_at lexed us e q = let v = verdict (Bad us) e q in
    let p = stops_at (tokens_of lexed) us (Bad us) q refl in let l = bad_long v in
    let m = left_shorter {us = us} {ts = tokens_of lexed} (rw (← ap end_of q) ((local_unit limit).left
    (tokens_of lexed))) in
    ((omega arith, rw (← p) v), λ o w. one_verdict w v ∙ ap (λ us. Bad us) p)

pub sunk_at : (lexed : Lexed) (us : List Lexeme) → Ended (tokens_of lexed) → unit limit (tokens_of lexed) ≡ Deep us
    → Answers lexed (Err (TooDeep (length (tokens_of lexed) - length us)))
    × Exact lexed (Err (TooDeep (length (tokens_of lexed) - length us)))
sunk_at lexed us e q = let v = verdict (Deep us) e q in let p = stops_at (tokens_of lexed) us (Deep us) q refl in
    let l = deep_long v in
    let m = left_shorter {us = us} {ts = tokens_of lexed} (rw (← ap end_of q) ((local_unit limit).left
    (tokens_of lexed))) in
    ((omega arith, rw (← p) v), λ o w. one_verdict w v ∙ ap (λ us. Deep us) p)

-- whichever fault it is
pub faulted : (lexed : Lexed) (us : List Lexeme) (f : Fault) → Ended (tokens_of lexed)
    → Fails (unit limit (tokens_of lexed)) f us
    → Answers lexed (Err (placed f (length (tokens_of lexed) - length us)))
    × Exact lexed (Err (placed f (length (tokens_of lexed) - length us)))
faulted lexed us fault.Syntax e h = refused_at lexed us e h
faulted lexed us fault.TooDeep e h = sunk_at lexed us e h
faulted lexed us fault.NoMemory e h = (tt, λ o v. tt)

-- Calls.

-- a unit that was read
pub unit_answered : (lexed : Lexed) (slice : List Token) (cursor us : List Lexeme) (p : UnitParts) (u : SplUnit)
    → Ended (tokens_of lexed)
    → slice ≡ lexed.tokens.items → cursor ≡ map lexeme_of slice → unit 64 cursor ≡ Got (parts p) us
    → unit_tree u ≡ parts p
    → u.subprogram ≡ lexed.subprogram → map letters u.segments.items ≡ map letters lexed.segments.items
    → Answers lexed (Ok u) × Exact lexed (Ok u)
unit_answered lexed slice cursor us p u e s b q same k n = let i : cursor ≡ tokens_of lexed = b
    ∙ ap (map lexeme_of) s in
    let r : unit limit (tokens_of lexed) ≡ Got (parts p) us = ap (unit limit) (sym i) ∙ q in
    (parsed lexed u (parts p) us e r same k n, parsed_exactly lexed u (parts p) us e r same)

-- and a fault
pub fault_answered : (lexed : Lexed) (slice : List Token) (cursor us : List Lexeme) (f : Fault) (count left at : ℕ)
    (r : ParseFault) → Ended (tokens_of lexed)
    → slice ≡ lexed.tokens.items → cursor ≡ map lexeme_of slice → Fails (unit 64 cursor) f us
    → count ≡ length lexed.tokens.items → left ≡ length us
    → at ≡ count - left → r ≡ placed f at → Answers lexed (Err r) × Exact lexed (Err r)
fault_answered lexed slice cursor us f count left at r e s b q n l p w = let i : cursor ≡ tokens_of lexed = b
    ∙ ap (map lexeme_of) s in
    let m = length-map lexed.tokens.items lexeme_of in
    let z : at ≡ length (tokens_of lexed) - length us = omega arith in
    rw (w, z) (faulted lexed us f e (rw i at q))
