-- What is answered is what the text is cut into, or its first fault.
use Rattle.std.proofs.Common.{◌≡◌, ℕ, List, refl, sym, ap, ◌∙◌, subst}
use Rattle.std.specs.Prelude.{◌≢◌, Result, Ok, Err, IfOk, IfErr}
use Rattle.spl_tree.specs.declared.names_and_places.At.{At}
use Rattle.spl_tree.specs.declared.tokens.Lexed.{Lexed}
use Rattle.spl_cuts.specs.declared.faults.LexKind.{LexKind}
use Rattle.spl_cuts.specs.declared.faults.LexKind.TheVariants as k
use Rattle.spl_cuts.specs.declared.faults.LexFault.{LexFault}
use Rattle.spl_cuts.specs.Signs.{Listed}
use Rattle.spl_cuts.specs.Cutting.{CutsWithin, FirstFault}
use Rattle.spl_cuts.specs.Reading.{read_text}
use Rattle.spl_cuts.proofs.TextReads.{cuts_read, fault_is_read}
use Rattle.spl_cuts.proofs.TextCuts.{texts_cut, faults_first}
use Rattle.spl_lexer.specs.TokenViews.{listed_of}
use Rattle.spl_lexer.specs.ReaderViews.{Answers, Faults, Gives, Refuses}
use Rattle.spl_cuts.specs.Whole.{IsWhole}
use Rattle.spl_cuts.proofs.WholeLemmas.{cut_whole}

-- a fault of another kind than memory is the one that is read
fault_is : (answer : Result Listed (LexKind × At)) (kind : LexKind) (at : At) → Faults answer kind at
    → kind ≢ k.NoMemory → answer ≡ Err (kind, at)
fault_is answer k.BadByte at e n = e
fault_is answer k.BadCommand at e n = e
fault_is answer k.OpenString at e n = e
fault_is answer k.OpenComment at e n = e
fault_is answer k.NameTooLong at e n = e
fault_is answer k.NumberTooLarge at e n = e
fault_is answer k.BadDefine at e n = e
fault_is answer k.TooManyTokens at e n = e
fault_is answer k.NoMemory at e n = absurd (n refl)

-- and where the answer is a list, there is none
no_fault : (x : Listed) (kind : LexKind) (at : At) → Faults (Ok x) kind at → kind ≡ k.NoMemory
no_fault x k.BadByte at e = cc
no_fault x k.BadCommand at e = cc
no_fault x k.OpenString at e = cc
no_fault x k.OpenComment at e = cc
no_fault x k.NameTooLong at e = cc
no_fault x k.NumberTooLarge at e = cc
no_fault x k.BadDefine at e = cc
no_fault x k.TooManyTokens at e = cc
no_fault x k.NoMemory at e = refl

pub cut_is : (unit : ℕ) (text : List ℕ) (r : Result Lexed LexFault) → Answers (read_text unit 262144 text) r
    → IfOk r (λ x. CutsWithin unit 262144 text (listed_of x))
cut_is unit text (Ok x) a = texts_cut unit 262144 text (listed_of x) a
cut_is unit text (Err f) a = tt

pub cut_ends : (unit : ℕ) (text : List ℕ) (r : Result Lexed LexFault) → Answers (read_text unit 262144 text) r
    → IfOk r (λ x. IsWhole unit 262144 (listed_of x))
cut_ends unit text (Ok x) a = cut_whole unit 262144 text (listed_of x) (texts_cut unit 262144 text (listed_of x) a)
cut_ends unit text (Err f) a = tt

pub fault_first : (unit : ℕ) (text : List ℕ) (r : Result Lexed LexFault) → Answers (read_text unit 262144 text) r
    → IfErr r (λ f. f.kind ≢ k.NoMemory → FirstFault unit 262144 text f.kind f.at)
fault_first unit text (Ok x) a = tt
fault_first unit text (Err f) a = λ n. faults_first unit 262144 text f.kind f.at (fault_is (read_text unit 262144 text) f.kind f.at a n)

ok_is : {x y : Listed} → Path (Result Listed (LexKind × At)) (Ok x) (Ok y) → x ≡ y
ok_is e = cc

err_is : {a b : LexKind} {p q : At} → Path (Result Listed (LexKind × At)) (Err (a, p)) (Err (b, q)) → (a ≡ b) × (p ≡ q)
err_is {a} {b} {p} {q} e =
    let f : Path (LexKind × At) (a, p) (b, q) = cc in
    (ap (λ (z : LexKind × At). z.0) f, ap (λ (z : LexKind × At). z.1) f)

pub cuts_give : (unit : ℕ) (text : List ℕ) (r : Result Lexed LexFault) → Answers (read_text unit 262144 text) r
    → (x : Listed) → CutsWithin unit 262144 text x → Gives r x
cuts_give unit text (Ok y) a x v = ok_is (sym a ∙ cuts_read unit 262144 text x v)
cuts_give unit text (Err f) a x v =
    no_fault x f.kind f.at (subst (λ (answer : Result Listed (LexKind × At)). Faults answer f.kind f.at) (cuts_read unit 262144 text x v) a)

pub faults_refuse : (unit : ℕ) (text : List ℕ) (r : Result Lexed LexFault) → Answers (read_text unit 262144 text) r
    → (kind : LexKind) (at : At) → FirstFault unit 262144 text kind at → Refuses r kind at
faults_refuse unit text (Ok y) a kind at v = let e : Path (Result Listed (LexKind × At)) (Ok (listed_of y)) (Err (kind, at)) = sym a ∙ fault_is_read unit 262144 text kind at v in cc
faults_refuse unit text (Err f) a kind at v = λ n. err_is (sym (fault_is (read_text unit 262144 text) f.kind f.at a n) ∙ fault_is_read unit 262144 text kind at v)
