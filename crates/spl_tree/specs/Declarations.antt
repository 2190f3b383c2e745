-- The grammar of declarations, one constructor for each production.
use Rattle.std.specs.Prelude.{ℕ, ◌≡◌, ◌==◌, ◌&&◌, ◌||◌, not, if◌then◌else◌, Bool, true, false, List, [], ◌∷◌, Option, Some, None}
use Rattle.spl_tree.specs.declared.expressions.Kind.{Kind}
use Rattle.spl_tree.specs.declared.expressions.Kind.TheVariants as kind
use Rattle.spl_tree.specs.declared.symbols.Symbol.TheVariants as s
use Rattle.spl_tree.specs.declared.symbols.Reserved.TheVariants as w
use Rattle.spl_tree.specs.Symbols.{Lexeme, Is, is_word}
use Rattle.spl_tree.specs.Operators.{is_sign}
use Rattle.spl_tree.specs.Expressions as g
use Rattle.spl_tree.specs.Trees as tree
use Rattle.spl_tree.specs.StatementTrees as stat
use Rattle.spl_tree.specs.Statements as st
use Rattle.spl_tree.specs.DeclarationTrees as decl
use Rattle.spl_tree.specs.DeclarationTrees.{Placed, declarations}

-- P { "," P }
pub data Separated {A : Type 0} (P : A → List Lexeme → List Lexeme → Type 0) : List A → List Lexeme → List Lexeme
    → Type 0 where
  one : {a : A} {ts rest : List Lexeme} → P a ts rest → Separated P (a ∷ []) ts rest
  more : {a : A} {bs : List A} {k : Lexeme} {ts mid rest : List Lexeme} → P a ts (k ∷ mid) → Is s.Comma k
      → Separated P bs mid rest
      → Separated P (a ∷ bs) ts rest

pub data Name : Placed → List Lexeme → List Lexeme → Type 0 where
  name : {t : Lexeme} {rest : List Lexeme} → Is s.Name t
      → Name (record { letters = t.letters; at = t.at }) (t ∷ rest) rest

-- name { "," name }
abbrev pub Names : List Placed → List Lexeme → List Lexeme → Type 0
Names = Separated Name

-- const { "," const }
abbrev pub Constants : List tree.Constant → List Lexeme → List Lexeme → Type 0
Constants = Separated g.Constant

-- [type], which is LOGICAL where it is not given
pub data OptionalKind : Kind → List Lexeme → List Lexeme → Type 0 where
  absent : {ts : List Lexeme} → OptionalKind kind.Logical ts ts
  given : {k : Kind} {t : Lexeme} {rest : List Lexeme} → Is (s.Type k) t → OptionalKind k (t ∷ rest) rest

-- [type] of a result
pub data Result : Option Kind → List Lexeme → List Lexeme → Type 0 where
  absent : {ts : List Lexeme} → Result None ts ts
  given : {k : Kind} {t : Lexeme} {rest : List Lexeme} → Is (s.Type k) t → Result (Some k) (t ∷ rest) rest

-- [OWN]
pub data Own : Bool → List Lexeme → List Lexeme → Type 0 where
  absent : {ts : List Lexeme} → Own false ts ts
  given : {t : Lexeme} {rest : List Lexeme} → Is (s.Word w.Own) t → Own true (t ∷ rest) rest

-- item = name [":=" const]
pub data Item : decl.Item → List Lexeme → List Lexeme → Type 0 where
  plain : {t : Lexeme} {rest : List Lexeme} → Is s.Name t
      → Item (record { name = t.letters; at = t.at; shape = decl.Shape.simple; first = [] }) (t ∷ rest) rest
  valued : {v : tree.Constant} {t k : Lexeme} {ts rest : List Lexeme} → Is s.Name t → Is s.Assign k
      → g.Constant v ts rest
      → Item (record { name = t.letters; at = t.at; shape = decl.Shape.simple; first = v ∷ [] }) (t ∷ k ∷ ts) rest

-- item { "," item }
abbrev pub Items : List decl.Item → List Lexeme → List Lexeme → Type 0
Items = Separated Item

-- array = name "(" const ":" const ")" | name "(" "*" ")" "=" name, with these initial values
pub data Array : List tree.Constant → decl.Item → List Lexeme → List Lexeme → Type 0 where
  bounds : {vs : List tree.Constant} {a b : tree.Constant} {t o k z : Lexeme} {ts mid rest : List Lexeme} → Is s.Name t
      → Is s.Open o
      → g.Constant a ts (k ∷ mid) → Is s.Colon k → g.Constant b mid (z ∷ rest) → Is s.Close z
      → Array vs (record { name = t.letters; at = t.at; shape = decl.Shape.array a b; first = vs }) (t ∷ o ∷ ts) rest
  view : {vs : List tree.Constant} {t o m z e b : Lexeme} {rest : List Lexeme} → Is s.Name t → Is s.Open o
      → Is (s.Operator 13) m → Is s.Close z
      → Is (s.Operator 5) e → Is s.Name b
      → Array vs (record { name = t.letters; at = t.at; shape = decl.Shape.view b.letters; first = vs })
      (t ∷ o ∷ m ∷ z ∷ e ∷ b ∷ rest) rest

-- array { "," array } [":=" const { "," const }]: the values are those of the last array
pub data Arrays : List decl.Item → List Lexeme → List Lexeme → Type 0 where
  one : {i : decl.Item} {ts rest : List Lexeme} → Array [] i ts rest → Arrays (i ∷ []) ts rest
  valued : {vs : List tree.Constant} {i : decl.Item} {k : Lexeme} {ts mid rest : List Lexeme} → Array vs i ts (k ∷ mid)
      → Is s.Assign k
      → Constants vs mid rest → Arrays (i ∷ []) ts rest
  more : {i : decl.Item} {is : List decl.Item} {k : Lexeme} {ts mid rest : List Lexeme} → Array [] i ts (k ∷ mid)
      → Is s.Comma k → Arrays is mid rest
      → Arrays (i ∷ is) ts rest

-- { ("+"|"-") const }
pub data Terms : List decl.Term → List Lexeme → List Lexeme → Type 0 where
  none : {ts : List Lexeme} → Terms [] ts ts
  more : {v : tree.Constant} {vs : List decl.Term} {op : ℕ} {p : Lexeme} {ts mid rest : List Lexeme}
      → Is (s.Operator op) p → is_sign op ≡ true
      → g.Constant v ts mid → Terms vs mid rest → Terms (record { minus = op == 12; value = v } ∷ vs) (p ∷ ts) rest

-- name "=" sumc, where sumc = const { ("+"|"-") const }
pub data Equal : decl.Equal → List Lexeme → List Lexeme → Type 0 where
  equal : {v : tree.Constant} {vs : List decl.Term} {t e : Lexeme} {ts mid rest : List Lexeme} → Is s.Name t
      → Is (s.Operator 5) e → g.Constant v ts mid
      → Terms vs mid rest
      → Equal (record { name = t.letters; at = t.at; terms = record { minus = false; value = v } ∷ vs }) (t ∷ e ∷ ts)
      rest

-- name "=" sumc { "," name "=" sumc }
abbrev pub Equals : List decl.Equal → List Lexeme → List Lexeme → Type 0
Equals = Separated Equal

-- [ "(" name { "," name } ")" ]
pub data Parameters : List Placed → List Lexeme → List Lexeme → Type 0 where
  absent : {ts : List Lexeme} → Parameters [] ts ts
  given : {ns : List Placed} {o z : Lexeme} {ts rest : List Lexeme} → Is s.Open o → Names ns ts (z ∷ rest)
      → Is s.Close z → Parameters ns (o ∷ ts) rest

-- [ ";" VALUE name { "," name } ]
pub data Values : List Placed → List Lexeme → List Lexeme → Type 0 where
  absent : {ts : List Lexeme} → Values [] ts ts
  given : {ns : List Placed} {k v : Lexeme} {ts rest : List Lexeme} → Is s.Semicolon k → Is (s.Word w.Value) v
      → Names ns ts rest → Values ns (k ∷ v ∷ ts) rest

-- { ";" type name { "," name } | ";" [type] ARRAY name { "," name } }
pub data Specs : List decl.Spec → List Lexeme → List Lexeme → Type 0 where
  none : {ts : List Lexeme} → Specs [] ts ts
  words : {c : Kind} {ns : List Placed} {ss : List decl.Spec} {k t : Lexeme} {ts mid rest : List Lexeme}
      → Is s.Semicolon k → Is (s.Type c) t → Names ns ts mid
      → Specs ss mid rest → Specs (record { kind = c; array = false; names = ns } ∷ ss) (k ∷ t ∷ ts) rest
  arrays : {c : Kind} {ns : List Placed} {ss : List decl.Spec} {k a : Lexeme} {ts mid next rest : List Lexeme}
      → Is s.Semicolon k → OptionalKind c ts (a ∷ mid)
      → Is (s.Word w.Array) a → Names ns mid next → Specs ss next rest
      → Specs (record { kind = c; array = true; names = ns } ∷ ss) (k ∷ ts) rest

-- the options of a procedure
pub record Options : Type 0 where
  pub forward : Bool
  pub external : Bool
  pub split : Bool

-- those of both
abbrev pub both : Options → Options → Options
both a b = record { forward = a.forward || b.forward; external = a.external || b.external; split = a.split || b.split }

-- FORWARD and EXTERNAL exclude each other
abbrev pub fit : Options → Bool
fit a = not (a.forward && a.external)

-- the option with this name
unfoldable pub option_of : List ℕ → Option Options
option_of letters = if is_word letters "FORWARD" then Some (record { forward = true; external = false; split = false })
    else if is_word letters "EXTERNAL" then Some (record { forward = false; external = true; split = false })
    else if is_word letters "SPLIT" then Some (record { forward = false; external = false; split = true }) else None

-- opt { "," opt }, behind these options
pub data OptionList : Options → Options → List Lexeme → List Lexeme → Type 0 where
  one : {a b : Options} {t : Lexeme} {rest : List Lexeme} → Is s.Name t → option_of t.letters ≡ Some b
      → fit (both a b) ≡ true
      → OptionList a (both a b) (t ∷ rest) rest
  more : {a b c : Options} {t k : Lexeme} {ts rest : List Lexeme} → Is s.Name t → option_of t.letters ≡ Some b
      → fit (both a b) ≡ true → Is s.Comma k
      → OptionList (both a b) c ts rest → OptionList a c (t ∷ k ∷ ts) rest

-- no option
abbrev pub no_options : Options
no_options = record { forward = false; external = false; split = false }

-- [type] PROCEDURE name params ";", with this option SPLIT; it belongs to the segment in force at PROCEDURE
pub data Heading : Bool → decl.Heading → List Lexeme → List Lexeme → Type 0 where
  heading : {split : Bool} {r : Option Kind} {ns vs : List Placed} {ss : List decl.Spec} {p t k : Lexeme}
      {ts after_type after_names after_values rest : List Lexeme}
      → Result r ts (p ∷ t ∷ after_type) → Is (s.Word w.Procedure) p → Is s.Name t
      → Parameters ns after_type after_names → Values vs after_names after_values
      → Specs ss after_values (k ∷ rest) → Is s.Semicolon k
      → Heading split (record {
        result = r;
        name = t.letters;
        names = ns;
        values = vs;
        specs = ss;
        split = split;
        at =
            t.at;
        segment = p.segment;
      }) ts rest

-- [type] SUBROUTINE name params ";", in this segment
pub data SubroutineHeading : ℕ → decl.Heading → List Lexeme → List Lexeme → Type 0 where
  heading : {segment : ℕ} {r : Option Kind} {ns vs : List Placed} {ss : List decl.Spec} {p t k : Lexeme}
      {ts after_type after_names after_values rest : List Lexeme}
      → Result r ts (p ∷ t ∷ after_type) → Is (s.Word w.Subroutine) p → Is s.Name t
      → Parameters ns after_type after_names → Values vs after_names after_values
      → Specs ss after_values (k ∷ rest) → Is s.Semicolon k
      → SubroutineHeading segment (record {
        result = r;
        name = t.letters;
        names = ns;
        values = vs;
        specs = ss;
        split = false;
        at = t.at;
        segment =
            segment;
      }) ts rest

-- a statement that can be a body: not empty, and no BEGIN
abbrev pub can_be_body : stat.Statement → Bool
can_be_body stat.Statement.empty = false
can_be_body (stat.Statement.block ss) = false
can_be_body _ = true

abbrev pub is_subroutine : decl.Declaration → Bool
is_subroutine (decl.Declaration.subroutine h x) = true
is_subroutine _ = false

-- a pointer
abbrev pub pointer : Placed → decl.Item
pointer p = record { name = p.letters; at = p.at; shape = decl.Shape.pointer; first = [] }

abbrev pub pointers : List Placed → List decl.Item
pointers [] = []
pointers (p ∷ ps) = pointer p ∷ pointers ps

mutual
  -- A declaration; in a unit, where the flag says so, it may be a procedure. A subroutine is of this segment.
  pub data Declaration : Bool → ℕ → decl.Declaration → List Lexeme → List Lexeme → Type 0 where
    -- [OWN] type item { "," item }
    simple : {u own : Bool} {segment : ℕ} {c : Kind} {is : List decl.Item} {t : Lexeme} {ts mid rest : List Lexeme}
        → Own own ts (t ∷ mid) → Is (s.Type c) t
        → Items is mid rest → Declaration u segment (decl.Declaration.data_items own c is) ts rest
    -- [OWN] [type] ARRAY array { "," array } [":=" const { "," const }]
    array : {u own : Bool} {segment : ℕ} {c : Kind} {is : List decl.Item} {a : Lexeme} {ts mid next rest : List Lexeme}
        → Own own ts mid
        → OptionalKind c mid (a ∷ next) → Is (s.Word w.Array) a → Arrays is next rest
        → Declaration u segment (decl.Declaration.data_items own c is) ts rest
    -- type POINTER name { "," name }
    pointers_of : {u : Bool} {segment : ℕ} {c : Kind} {ns : List Placed} {t p : Lexeme} {ts rest : List Lexeme}
        → Is (s.Type c) t → Is (s.Word w.Pointer) p
        → Names ns ts rest → Declaration u segment (decl.Declaration.data_items false c (pointers ns)) (t ∷ p ∷ ts) rest
    equate : {u : Bool} {segment : ℕ} {es : List decl.Equal} {t : Lexeme} {ts rest : List Lexeme}
        → Is (s.Word w.Equate) t → Equals es ts rest
        → Declaration u segment (decl.Declaration.equate es) (t ∷ ts) rest
    intrinsic : {u : Bool} {segment : ℕ} {ns : List Placed} {t : Lexeme} {ts rest : List Lexeme}
        → Is (s.Word w.Intrinsic) t → Names ns ts rest
        → Declaration u segment (decl.Declaration.intrinsic ns) (t ∷ ts) rest
    label : {u : Bool} {segment : ℕ} {ns : List Placed} {t : Lexeme} {ts rest : List Lexeme} → Is (s.Word w.Label) t
        → Names ns ts rest
        → Declaration u segment (decl.Declaration.label ns) (t ∷ ts) rest
    -- heading body
    procedure : {segment : ℕ} {h : decl.Heading} {ds : List decl.Declaration} {xs : List stat.Statement}
        {ts mid rest : List Lexeme} → Heading false h ts mid
        → Body h.segment ds xs mid rest
        → Declaration true segment (decl.Declaration.procedure h (declarations ds) xs) ts rest
    -- heading OPTION opt { "," opt } ";" body
    procedure_with : {segment : ℕ} {a : Options} {h : decl.Heading} {ds : List decl.Declaration}
        {xs : List stat.Statement} {p k : Lexeme} {ts mid next rest : List Lexeme}
        → Heading a.split h ts (p ∷ mid) → Is (s.Word w.Options) p → OptionList no_options a mid (k ∷ next)
        → a.forward ≡ false → a.external ≡ false → Is s.Semicolon k
        → Body h.segment ds xs next rest
        → Declaration true segment (decl.Declaration.procedure h (declarations ds) xs) ts rest
    -- heading OPTION opt { "," opt }, with FORWARD
    forward : {segment : ℕ} {a : Options} {h : decl.Heading} {p : Lexeme} {ts mid rest : List Lexeme}
        → Heading a.split h ts (p ∷ mid) → Is (s.Word w.Options) p
        → OptionList no_options a mid rest → a.forward ≡ true
        → Declaration true segment (decl.Declaration.forward h) ts rest
    -- heading OPTION opt { "," opt }, with EXTERNAL
    external : {segment : ℕ} {a : Options} {h : decl.Heading} {p : Lexeme} {ts mid rest : List Lexeme}
        → Heading a.split h ts (p ∷ mid) → Is (s.Word w.Options) p
        → OptionList no_options a mid rest → a.external ≡ true
        → Declaration true segment (decl.Declaration.external h) ts rest
    -- [type] SUBROUTINE name params ";" statement
    subroutine : {u : Bool} {segment : ℕ} {h : decl.Heading} {x : stat.Statement} {ts mid rest : List Lexeme}
        → SubroutineHeading segment h ts mid
        → st.Statement x mid rest → Declaration u segment (decl.Declaration.subroutine h x) ts rest

  -- { decl ";" }; behind a subroutine, where the second flag says so, only subroutines
  pub data Declarations : Bool → Bool → ℕ → List decl.Declaration → List Lexeme → List Lexeme → Type 0 where
    none : {u after : Bool} {segment : ℕ} {ts : List Lexeme} → Declarations u after segment [] ts ts
    more : {u after : Bool} {segment : ℕ} {d : decl.Declaration} {ds : List decl.Declaration} {k : Lexeme}
        {ts mid rest : List Lexeme}
        → Declaration u segment d ts (k ∷ mid) → (is_subroutine d || not after) ≡ true → Is s.Semicolon k
        → Declarations u (is_subroutine d) segment ds mid rest → Declarations u after segment (d ∷ ds) ts rest

  -- the body of a procedure of this segment
  pub data Body : ℕ → List decl.Declaration → List stat.Statement → List Lexeme → List Lexeme → Type 0 where
    -- BEGIN { decl ";" } statements END
    block : {segment : ℕ} {ds : List decl.Declaration} {xs : List stat.Statement} {b z : Lexeme}
        {ts mid rest : List Lexeme} → Is (s.Word w.Begin) b
        → Declarations false false segment ds ts mid → st.Statements xs mid (z ∷ rest) → Is (s.Word w.End) z
        → Body segment ds xs (b ∷ ts) rest
    single : {segment : ℕ} {x : stat.Statement} {ts rest : List Lexeme} → st.Statement x ts rest → can_be_body x ≡ true
        → Body segment [] (x ∷ []) ts rest
