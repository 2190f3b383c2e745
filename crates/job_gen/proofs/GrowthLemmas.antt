-- Texts that grow by lines: what is appended one behind the other is appended together.
use Rattle.std.proofs.Common.{◌≡◌, ◌≢◌, ℕ, suc, ◌+◌, ◌-◌, ◌/◌, ◌%◌, arith, List, [], ◌∷◌, ◌++◌, refl, sym, ap, ◌∙◌, append_assoc, append-nil, add-one}
use Rattle.job_gen.specs.declared.growing.Growing.{Growing}
use Rattle.std.specs.Prelude.{codes}
use Rattle.std.specs.Fmt.{decimal}
use Rattle.std.proofs.lemmas.Bool.Decides.{nat_tests}
use Rattle.job_gen.specs.Draws.{next, drawn}
use Rattle.job_gen.specs.Pieces.{Line, filled, behind, ended, text_of, behind_all}
use Rattle.job_gen.specs.Generated.{plain, name, later_procedure, procedure, segment, procedures, procedure_lines, program, programs, session, sessions}
use Rattle.job_gen.specs.Grows.{Grows}

pub text_append : (x : ℕ) (ls ms : List Line) → text_of x (ls ++ ms) ≡ text_of x ls ++ text_of (behind_all x ls) ms
text_append x [] ms = refl
text_append x (l ∷ ls) ms =
    ap (λ t. filled x (ended l) ++ t) (text_append (behind x l) ls ms)
    ∙ sym (append_assoc (filled x (ended l)) (text_of (behind x l) ls) (text_of (behind_all (behind x l) ls) ms))

pub behind_append : (x : ℕ) (ls ms : List Line) → behind_all x (ls ++ ms) ≡ behind_all (behind_all x ls) ms
behind_append x [] ms = refl
behind_append x (l ∷ ls) ms = behind_append (behind x l) ls ms

-- nothing appended
pub grows_none : (g : Growing) → Grows g g []
grows_none g = record { text = sym (append-nil g.text.items); last = refl }

-- and then more
pub grows_then : (a b c : Growing) (ls ms : List Line) → Grows a b ls → Grows b c ms → Grows a c (ls ++ ms)
grows_then a b c ls ms f s = record {
  text =
      s.text ∙ ap (λ t. t ++ text_of b.last ms) f.text ∙ ap (λ x. (a.text.items ++ text_of a.last ls) ++ text_of x ms) f.last
      ∙ append_assoc a.text.items (text_of a.last ls) (text_of (behind_all a.last ls) ms)
      ∙ ap (λ t. a.text.items ++ t) (sym (text_append a.last ls ms));
  last = s.last ∙ ap (λ x. behind_all x ms) f.last ∙ sym (behind_append a.last ls ms);
}

-- one line
pub line_grows : (a b : Growing) (l : Line) → b.text.items ≡ a.text.items ++ filled a.last (ended l) → b.last ≡ behind a.last l → Grows a b (l ∷ [])
line_grows a b l t e = record { text = t ∙ ap (λ x. a.text.items ++ x) (sym (append-nil (filled a.last (ended l)))); last = e }

-- two
pub lines_grow : (a b c : Growing) (l m : Line) → b.text.items ≡ a.text.items ++ filled a.last (ended l) → b.last ≡ behind a.last l
    → c.text.items ≡ b.text.items ++ filled b.last (ended m) → c.last ≡ behind b.last m → Grows a c (l ∷ m ∷ [])
lines_grow a b c l m t e u f = grows_then a b c (l ∷ []) (m ∷ []) (line_grows a b l t e) (line_grows b c m u f)

-- bytes with no draw
pub bytes_grow : (a b : Growing) (ls : List Line) → b.text.items ≡ a.text.items ++ text_of a.last ls → b.last ≡ behind_all a.last ls → Grows a b ls
bytes_grow a b ls t e = record { text = t; last = e }

-- loops: one more of each
pub no_procedures : (g : Growing) → Grows g g (procedures 0)
unfolding procedures
no_procedures g = grows_none g

pub more_procedures : (a b c : Growing) (k : ℕ) → Grows a b (procedures k) → Grows b c (procedure_lines k) → Grows a c (procedures (k + 1))
unfolding procedures
more_procedures a b c k f s = rw add-one (grows_then a b c (procedures k) (procedure_lines k) f s)

pub no_programs : (g : Growing) → Grows g g (programs 0)
unfolding programs
no_programs g = grows_none g

pub more_programs : (a b c : Growing) (j : ℕ) → Grows a b (programs j) → Grows b c (program (j + 1)) → Grows a c (programs (j + 1))
unfolding programs
more_programs a b c j f s = rw add-one (grows_then a b c (programs j) (program (suc j)) f (rw add-one at s))

pub no_sessions : (g : Growing) → Grows g g (sessions 0)
unfolding sessions
no_sessions g = grows_none g

pub more_sessions : (a b c : Growing) (j : ℕ) → Grows a b (sessions j) → Grows b c (session (j + 1) ∷ session (j + 1) ∷ []) → Grows a c (sessions (j + 1))
unfolding sessions
more_sessions a b c j f s = rw add-one (grows_then a b c (sessions j) (session (suc j) ∷ session (suc j) ∷ []) f (rw add-one at s))

-- ---- lines with numbers

-- a later procedure with its three numbers
abbrev front : ℕ → List ℕ
front k = codes "LOGICAL PROCEDURE P" ++ (decimal k ++ (codes "(V); VALUE V; LOGICAL V; BEGIN P" ++ (decimal k ++ (codes ":=P" ++ decimal (k - 1)))))

abbrev rest : ℕ → ℕ → ℕ → List ℕ
rest a b c = codes "(V+" ++ (decimal a ++ (codes ")*" ++ (decimal b ++ (codes "+" ++ (decimal c ++ codes "; END;\n")))))

rest_told : (a b c x : ℕ) → a ≡ drawn x → b ≡ drawn (next x) → c ≡ drawn (next (next x)) → rest a b c ≡ rest (drawn x) (drawn (next x)) (drawn (next (next x)))
rest_told a b c x ea eb ec = ap (λ t. rest t b c) ea ∙ ap (λ t. rest (drawn x) t c) eb ∙ ap (λ t. rest (drawn x) (drawn (next x)) t) ec

joined : (k : ℕ) (r : List ℕ) → front k ++ r
    ≡ codes "LOGICAL PROCEDURE P" ++ (decimal k ++ (codes "(V); VALUE V; LOGICAL V; BEGIN P" ++ (decimal k ++ (codes ":=P" ++ (decimal (k - 1) ++ r)))))
joined k r = simp append_assoc

pub later_told : (before f r : List ℕ) (k a b c x : ℕ) → f ≡ front k → r ≡ rest a b c → a ≡ drawn x → b ≡ drawn (next x) → c ≡ drawn (next (next x))
    → (before ++ f) ++ r ≡ before ++ filled x (ended (later_procedure k))
later_told before f r k a b c x ef er ea eb ec =
    append_assoc before f r
    ∙ ap (λ t. before ++ t)
    (ap (λ t. t ++ r) ef ∙ ap (λ t. front k ++ t) (er ∙ rest_told a b c x ea eb ec) ∙ joined k (rest (drawn x) (drawn (next x)) (drawn (next (next x)))))

-- the two lines before a program's unit
pub head_told : (j x : ℕ) → codes "!PROGRAM G" ++ (decimal j ++ codes "\n!UNIT\n") ≡ text_of x (plain (codes "!PROGRAM " ++ name j) ∷ plain (codes "!UNIT") ∷ [])
head_told j x = ap (λ t. codes "!PROGRAM G" ++ t) (sym (append_assoc (decimal j) (10 ∷ []) (codes "!UNIT\n")))

-- ten procedures a segment
pub with_segment : (k : ℕ) → k % 10 ≡ 0 → procedure_lines k ≡ segment (k / 10) ∷ procedure k ∷ []
with_segment k e = rw e refl

pub without_segment : (k : ℕ) → k % 10 ≢ 0 → procedure_lines k ≡ procedure k ∷ []
without_segment k e = grind (arith, nat_tests)
