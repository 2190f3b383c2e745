-- Which programs are covered, of some that are given by their texts.
use Rattle.std.specs.Prelude.{◌≡◌, Bool, List, [], ◌∷◌, map, codes, Some, option_map}
use Prim.Native.String.{String}
use Rattle.spl_known.specs.Programs.{sources_from}
use Rattle.spl_carried.specs.Covered.{is_covered_program}

-- the program of one unit with this text, of which procedures and subroutines of these names may be called, is covered, or it is not
abbrev pub IsSo : Bool → List String → List String → String → Type 0
IsSo covered names inners text =
    option_map (λ us. is_covered_program (map codes names) (map codes inners) us) (sources_from 1 [] (text ∷ [])) ≡ Some covered

-- so it is with each text, where none may be called
abbrev pub AllSo : Bool → List String → Type 0
AllSo covered [] = Unit {0}
AllSo covered (t ∷ ts) = IsSo covered [] [] t × AllSo covered ts

-- and with each by the names of its procedures
abbrev pub EachSo : Bool → List (List String × String) → Type 0
EachSo covered [] = Unit {0}
EachSo covered (c ∷ cs) = IsSo covered c.0 [] c.1 × EachSo covered cs

-- and of its subroutines too
abbrev pub EachInnerSo : Bool → List (List String × List String × String) → Type 0
EachInnerSo covered [] = Unit {0}
EachInnerSo covered (c ∷ cs) = IsSo covered c.0 c.1 c.2 × EachInnerSo covered cs

-- sums, loops, choices, elements of arrays, BYTEs, bit fields, pointers, DOUBLEs, their relations and their elements, what is declared and not called,
-- calls of intrinsics, IF on the condition code; jumps: backwards, forwards, out of a FOR, inside one, and from one arm of a CASE to another; MOVE and SCAN,
-- by themselves and assigned; calls of intrinsics within expressions, comparisons of bytes with a string and by a count, what an intrinsic answers put
-- into an element and into a DOUBLE; and a line that is read and moved
abbrev pub covered_texts : List String
covered_texts =
    "BEGIN INTEGER I; INTRINSIC QUIT; I:=2; I:=I+3; QUIT(I) END."
    ∷ "BEGIN INTEGER I,K; INTRINSIC QUIT; FOR I:=1 UNTIL 3 DO K:=K+I; QUIT(K) END."
    ∷ "BEGIN INTEGER I; WHILE I<5 DO IF I=3 THEN I:=5 ELSE I:=I+1 END."
    ∷ "BEGIN INTEGER I; CASE I OF BEGIN I:=1; I:=2 END END."
    ∷ "BEGIN INTEGER ARRAY A(0:9); INTEGER I; A(3):=7; I:=A(I+3)*2 END."
    ∷ "BEGIN BYTE ARRAY B(0:3); B(1):=65 END."
    ∷ "BEGIN BYTE C,D; C:=65; IF C=65 THEN D:=C+1 END."
    ∷ "BEGIN INTEGER I; LOGICAL ARRAY L(0:3); I.(4:3):=5; L(1).(0:2):=I.(4:3) END."
    ∷ "BEGIN INTEGER ARRAY A(0:3); INTEGER POINTER P; @P:=@A(1); P:=7; P(1):=P END."
    ∷ "BEGIN DOUBLE D; INTEGER I; D:=1D; D:=D+DOUBLE(I)-2D END."
    ∷ "BEGIN DOUBLE D; INTEGER I; I:=INTEGER(D); D:=DOUBLE(D) END."
    ∷ "BEGIN DOUBLE D; INTEGER I; L: IF D<1D THEN I:=1; GO TO L END."
    ∷ "BEGIN DOUBLE ARRAY D(0:3); DOUBLE POINTER P; INTEGER I; @P:=@D(1); D(I):=-D(1); P:=P(1)+D(I) END."
    ∷ "BEGIN INTEGER I; PROCEDURE P; I:=1; I:=2 END."
    ∷ "BEGIN INTRINSIC TERMINATE; TERMINATE END."
    ∷ "BEGIN LOGICAL ARRAY W(0:3); INTEGER N; INTRINSIC READ,PRINT; N:=READ(W,-8); PRINT(W,-N,0) END."
    ∷ "BEGIN BYTE ARRAY B(0:7); LOGICAL L; INTEGER N; INTRINSIC ASCII,BINARY; N:=ASCII(6*7,10,B); L:=BINARY(B,N); ASCII(L,8,B) END."
    ∷ "BEGIN BYTE ARRAY B(0:13); INTEGER N; DOUBLE D; INTRINSIC DASCII,DBINARY; N:=DASCII(D+1D,10,B); DBINARY(B,N) END."
    ∷ "BEGIN LOGICAL ARRAY W(0:3); INTRINSIC READ,QUIT; READ(W,4); IF > THEN QUIT(1) ELSE QUIT(2) END."
    ∷ "BEGIN INTEGER I; L: I:=1; GO TO L END."
    ∷ "BEGIN INTEGER I; IF I=0 THEN GO TO L; I:=1; L: M: I:=2 END."
    ∷ "BEGIN INTEGER I,K; FOR I:=1 UNTIL 9 DO BEGIN K:=K+I; IF K>10 THEN GO TO L END; L: K:=0 END."
    ∷ "BEGIN INTEGER I,K; FOR I:=1 UNTIL 3 DO BEGIN M: K:=K+1; IF K<I THEN GO TO M END END."
    ∷ "BEGIN INTEGER I; CASE I OF BEGIN GO TO M; M: I:=2 END END."
    ∷ "BEGIN LOGICAL ARRAY W(0:35); BYTE ARRAY B(*)=W; INTRINSIC PRINT,TERMINATE; MOVE B:=\"HELLO\"; PRINT(W,-5,%40); TERMINATE END."
    ∷ "BEGIN BYTE ARRAY B(0:7),C(0:7); INTEGER ARRAY A(0:3); MOVE B:=C(2),(3); MOVE C:=B WHILE AN; MOVE A:=A(1),(2); SCAN B UNTIL \".\" END."
    ∷ "BEGIN BYTE ARRAY B(0:7); INTEGER N; INTRINSIC QUIT; N:=MOVE B:=\"TEXT.\"; N:=N+1; N:=SCAN B UNTIL \".\"; QUIT(N) END."
    ∷ "BEGIN LOGICAL ARRAY W(0:3); INTEGER N; INTRINSIC READ; N:=READ(W,4)+1 END."
    ∷ "BEGIN BYTE ARRAY B(0:3); INTEGER N; IF B=\"AB\" THEN N:=1 END."
    ∷ "BEGIN BYTE ARRAY B(0:7),C(0:7); INTEGER N; IF B<C(2),(3) THEN N:=1 END."
    ∷ "BEGIN LOGICAL ARRAY W(0:3); INTEGER ARRAY A(0:3); BYTE ARRAY B(*)=W; DOUBLE D; INTRINSIC READ,DBINARY; A(1):=READ(W,-8); D:=DBINARY(B,A(1)) END."
    ∷ "BEGIN LOGICAL ARRAY W(0:9); BYTE ARRAY B(*)=W; INTEGER N; INTRINSIC READ,PRINT; N:=READ(W,-8); MOVE B(N):=B,(N); PRINT(W,-6,0) END." ∷ []

-- a unit without a main body
abbrev pub other_texts : List String
other_texts =
    "$CONTROL SUBPROGRAM\nBEGIN INTEGER I; PROCEDURE P; I:=1; END." ∷ []

-- ---- calls

-- a procedure without parameters; one that is recursive, with a local item; parameters by value and by reference; a result; two that call each other; an
-- array and an element passed; an OWN item; DOUBLEs; a call within an argument; a local array, a view and an initial value; a split procedure; and a FOR that
-- counts by a parameter by reference
abbrev pub calling_texts : List (List String × String)
calling_texts =
    ("P" ∷ [], "BEGIN INTEGER I; PROCEDURE P; I:=1; P END.")
    ∷ ("P" ∷ [], "BEGIN INTEGER I; PROCEDURE P; BEGIN INTEGER K; K:=I; IF K>0 THEN BEGIN I:=K-1; P; RETURN END END; I:=3; P END.")
    ∷ ("SWAP" ∷ [], "BEGIN INTEGER I,J; PROCEDURE SWAP(A,B); INTEGER A,B; BEGIN INTEGER T; T:=A; A:=B; B:=T END; I:=3; J:=8; SWAP(I,J) END.")
    ∷ ("F" ∷ [], "BEGIN INTEGER K; INTRINSIC QUIT; INTEGER PROCEDURE F(N); VALUE N; INTEGER N; BEGIN IF N<2 THEN F:=1 ELSE F:=N*F(N-1); END; K:=F(7); QUIT(K) END.")
    ∷ ("ODD" ∷ "EVEN" ∷ [], "BEGIN INTEGER K; LOGICAL PROCEDURE ODD(A); VALUE A; INTEGER A; OPTION FORWARD; LOGICAL PROCEDURE EVEN(A); VALUE A; INTEGER A; IF A=0 THEN EVEN:=TRUE ELSE EVEN:=ODD(A-1); LOGICAL PROCEDURE ODD(A); VALUE A; INTEGER A; IF A=0 THEN ODD:=FALSE ELSE ODD:=EVEN(A-1); IF ODD(7) THEN K:=1 END.")
    ∷ ("F" ∷ [], "BEGIN INTEGER ARRAY A(-1:4):=1,2,3,4,5,6; INTRINSIC QUIT; INTEGER PROCEDURE F(R,K); VALUE K; INTEGER ARRAY R; INTEGER K; F:=R(K)*10+R; QUIT(F(A,-1)*100+F(A(2),2)) END.")
    ∷ ("P" ∷ [], "BEGIN INTEGER K; PROCEDURE P; BEGIN OWN INTEGER C:=5; INTEGER D; C:=C+1; D:=D+1; K:=K*100+C*10+D; END; P; P END.")
    ∷ ("F" ∷ [], "BEGIN DOUBLE E; INTRINSIC QUIT; DOUBLE PROCEDURE F(C,D); VALUE C; DOUBLE C,D; BEGIN D:=D+C; F:=D-1D; END; E:=70000D; QUIT(INTEGER(F(-69990D,E))*100+INTEGER(E)) END.")
    ∷ ("F" ∷ [], "BEGIN INTEGER K; INTEGER PROCEDURE F(N); VALUE N; INTEGER N; F:=N+1; K:=F(F(F(1))) END.")
    ∷ ("P" ∷ [], "BEGIN PROCEDURE P; BEGIN INTEGER ARRAY A(0:3); BYTE ARRAY B(*)=A; INTEGER I:=2; A(I):=7; B(1):=65 END; P END.")
    ∷ ("P" ∷ [], "BEGIN INTRINSIC QUIT; INTEGER PROCEDURE P(A); VALUE A; INTEGER A; OPTION SPLIT; BEGIN INTEGER POINTER Q; INTEGER I,J; Q:=3; J:=A; I:=J+Q; J:=0; P:=I*10+Q(1); END; QUIT(P(4)) END.")
    ∷ ("P" ∷ [], "BEGIN INTEGER I,K; PROCEDURE P(C); INTEGER C; FOR C:=1 UNTIL 3 DO K:=K+C; P(I) END.") ∷ []

-- a procedure that may not be called, one that calls another that may not be called, and a subroutine
abbrev pub uncalled_texts : List (List String × String)
uncalled_texts =
    ([], "BEGIN INTEGER I; PROCEDURE P; I:=1; P END.")
    ∷ ("P" ∷ [], "BEGIN INTEGER I; PROCEDURE Q; I:=1; PROCEDURE P; Q; P END.")
    ∷ ("P" ∷ [], "BEGIN INTEGER I; PROCEDURE P; I:=1; SUBROUTINE S; I:=1; S END.") ∷ []

-- ---- calls of subroutines

-- of a main body, that calls another, with a parameter that it does not use, and within which is a jump; RETURN out of a FOR; of a procedure, with its local
-- item, and with a name that a procedure has as well; of a procedure that calls itself from there; of a split procedure; one that uses its parameter; one that
-- is recursive, with a result; parameters by reference; DOUBLEs, with a parameter that is assigned; of a procedure with a parameter, which it uses with its own;
-- one that takes an element of an array that is its parameter; one that counts a FOR by its parameter; one that assigns to a bit field of its own; one that
-- passes its parameters on; and one that puts what an intrinsic answers where its parameter leads
abbrev pub inner_texts : List (List String × List String × String)
inner_texts =
    ([], "S" ∷ [], "BEGIN INTEGER I; SUBROUTINE S; I:=I+1; S; S END.")
    ∷ ([], "S" ∷ "T" ∷ [], "BEGIN INTEGER I; SUBROUTINE S; I:=I+1; SUBROUTINE T; BEGIN S; I:=I*2 END; T; S END.")
    ∷ ([], "S" ∷ [], "BEGIN INTEGER I; SUBROUTINE S(V); VALUE V; INTEGER V; BEGIN L: I:=I+1; IF I<5 THEN GO TO L END; S(I*2) END.")
    ∷ ([], "S" ∷ [], "BEGIN INTEGER I; SUBROUTINE S; FOR I:=1 UNTIL 9 DO IF I>4 THEN RETURN; S END.")
    ∷ ("P" ∷ "S" ∷ [], "S" ∷ [], "BEGIN INTEGER I; PROCEDURE P; BEGIN INTEGER K; SUBROUTINE S; K:=K+1; S; S; I:=K END; PROCEDURE S; I:=I+1; P; S END.")
    ∷ ("P" ∷ [], "S" ∷ [], "BEGIN INTEGER I; PROCEDURE P; BEGIN SUBROUTINE S; IF I<9 THEN P; I:=I+1; S END; P END.")
    ∷ ("P" ∷ [], "S" ∷ [], "BEGIN PROCEDURE P; OPTION SPLIT; BEGIN INTEGER J; SUBROUTINE S; J:=J+1; S; S END; P END.")
    ∷ ([], "S" ∷ [], "BEGIN INTEGER I; SUBROUTINE S(V); VALUE V; INTEGER V; I:=V; S(1) END.")
    ∷ ([], "F" ∷ [], "BEGIN INTEGER K; INTRINSIC QUIT; INTEGER SUBROUTINE F(N); VALUE N; INTEGER N; IF N<2 THEN F:=1 ELSE F:=N*F(N-1); K:=F(7); QUIT(K) END.")
    ∷ ([], "SWAP" ∷ [], "BEGIN INTEGER I,J,T; SUBROUTINE SWAP(A,B); INTEGER A,B; BEGIN T:=A; A:=B; B:=T END; I:=3; J:=8; SWAP(I,J) END.")
    ∷ ([], "F" ∷ [], "BEGIN DOUBLE E; DOUBLE SUBROUTINE F(C,N); VALUE C,N; DOUBLE C; INTEGER N; BEGIN C:=C+DOUBLE(N); F:=C-1D END; E:=F(70000D,3) END.")
    ∷ ("P" ∷ [], "S" ∷ [], "BEGIN INTEGER K; INTEGER PROCEDURE P(A); VALUE A; INTEGER A; BEGIN INTEGER SUBROUTINE S(V); VALUE V; INTEGER V; BEGIN V:=V+A; S:=V*2 END; P:=S(A)+S(1) END; K:=P(4) END.")
    ∷ ([], "S" ∷ [], "BEGIN INTEGER I; INTEGER ARRAY A(0:3); SUBROUTINE S(R); INTEGER ARRAY R; I:=R(1); S(A) END.")
    ∷ ([], "S" ∷ [], "BEGIN INTEGER I; SUBROUTINE S(V); VALUE V; INTEGER V; FOR V:=1 UNTIL 3 DO I:=I+V; S(1) END.")
    ∷ ([], "S" ∷ [], "BEGIN INTEGER I; SUBROUTINE S(V); VALUE V; INTEGER V; V.(4:3):=I; S(1) END.")
    ∷ ([], "S" ∷ "T" ∷ [], "BEGIN INTEGER ARRAY A(0:3); DOUBLE D; SUBROUTINE S(R,E); INTEGER ARRAY R; DOUBLE E; BEGIN R(2):=R(1); R(2).(0:8):=R; E:=E+1D END; SUBROUTINE T(R,E); INTEGER ARRAY R; DOUBLE E; S(R,E); T(A,D) END.")
    ∷ ([], "S" ∷ [], "BEGIN INTEGER K; LOGICAL ARRAY W(0:3); INTRINSIC READ; SUBROUTINE S(V); INTEGER V; BEGIN V:=READ(W,4); IF = THEN V.(15:1):=1 END; S(K) END.") ∷ []

-- a subroutine that may not be called, and one that calls another that may not be called
abbrev pub uncalled_inners : List (List String × List String × String)
uncalled_inners =
    ([], "T" ∷ [], "BEGIN INTEGER I; SUBROUTINE S; I:=1; S END.")
    ∷ ([], "T" ∷ [], "BEGIN INTEGER I; SUBROUTINE S; I:=1; SUBROUTINE T; S; T END.") ∷ []
