-- What is left to be listed, when statements come to its end or go from it.
use Rattle.std.proofs.Common.{Result, Ok, Err, OnOk, ◌≡◌, ◌<◌, ◌+◌, ℕ, Bool, false, List, [], ◌∷◌, ◌++◌, map, drop, length, refl, sym, ◌∙◌, ap, subst, arith, append_assoc}
use Rattle.std.proofs.lemmas.List.{append-nil}
use Rattle.pens.proofs.Progress.{unroll}
use Rattle.c_text.specs.CNodes.{Nodes, code_of}
use Rattle.c_form_stmts.specs.declared.lines.Line.{Line}
use Rattle.c_form_stmts.specs.Lines.{LineTree, lines_of, line_in, HasLine, HasLines, left_of, line_size, size_of}

pub left_push : (nodes : Nodes) (e : Bool) (ls : List Line) (l : Line) → left_of nodes e (ls ++ l ∷ []) ≡ lines_of e l.switched (code_of nodes l.stmt.0) ++ left_of nodes e ls
left_push nodes e [] l = sym (append-nil (lines_of e l.switched (code_of nodes l.stmt.0)))
left_push nodes e (x ∷ ls) l =
    ap (λ xs. xs ++ lines_of e x.switched (code_of nodes x.stmt.0)) (left_push nodes e ls l) ∙ append_assoc (lines_of e l.switched (code_of nodes l.stmt.0)) (left_of nodes e ls) (lines_of e x.switched (code_of nodes x.stmt.0))

pub size_push : (nodes : Nodes) (ls : List Line) (l : Line) → size_of nodes (ls ++ l ∷ []) ≡ size_of nodes ls + line_size nodes l
size_push nodes [] l = omega arith
size_push nodes (x ∷ ls) l = let rest = size_push nodes ls l in omega (arith, rest)

pub has_push : (nodes : Nodes) (ls : List Line) (l : Line) → HasLines nodes ls → HasLine nodes l → HasLines nodes (ls ++ l ∷ [])
has_push nodes [] l h k = (k, tt)
has_push nodes (x ∷ ls) l h k = (h.0, has_push nodes ls l h.1 k)

pub has_last : (nodes : Nodes) (ls : List Line) (l : Line) → HasLines nodes (ls ++ l ∷ []) → HasLines nodes ls × HasLine nodes l
has_last nodes [] l h = (tt, h.0)
has_last nodes (x ∷ ls) l h = let rest = has_last nodes ls l h.1 in ((h.0, rest.0), rest.1)

-- What is left after a line was put at the end.
pub put_left : (nodes : Nodes) (old new : List Line) (l : Line) → new ≡ old ++ l ∷ [] → (e : Bool) → left_of nodes e new ≡ lines_of e l.switched (code_of nodes l.stmt.0) ++ left_of nodes e old
put_left nodes old new l is e = ap (left_of nodes e) is ∙ left_push nodes e old l

pub put_size : (nodes : Nodes) (old new : List Line) (l : Line) → new ≡ old ++ l ∷ [] → size_of nodes new ≡ size_of nodes old + line_size nodes l
put_size nodes old new l is = ap (size_of nodes) is ∙ size_push nodes old l

pub put_has : (nodes : Nodes) (old new : List Line) (l : Line) → new ≡ old ++ l ∷ [] → HasLines nodes old → HasLine nodes l → HasLines nodes new
put_has nodes old new l is h k = subst (λ (ls : List Line). HasLines nodes ls) (sym is) (has_push nodes old l h k)

-- A line that is taken from the end of what is left.
pub popped_has : (nodes : Nodes) (whole rest : List Line) (l : Line) → whole ≡ rest ++ l ∷ [] → HasLines nodes whole → HasLines nodes rest × HasLine nodes l
popped_has nodes whole rest l is h = has_last nodes rest l (subst (λ (ls : List Line). HasLines nodes ls) is h)

pub listed_more : (nodes : Nodes) (e : Bool) (whole rest left' listed listed' : List Line) (l : Line) (all : List LineTree) → whole ≡ rest ++ l ∷ [] → map (line_in nodes) listed' ++ left_of nodes e left' ≡ map (line_in nodes) listed ++ (lines_of e l.switched (code_of nodes l.stmt.0) ++ left_of nodes e rest) → map (line_in nodes) listed ++ left_of nodes e whole ≡ all → map (line_in nodes) listed' ++ left_of nodes e left' ≡ all
listed_more nodes e whole rest left' listed listed' l all is step so_far = step ∙ (ap (λ xs. map (line_in nodes) listed ++ xs) (sym (put_left nodes rest whole l is e)) ∙ so_far)

pub all_listed : (nodes : Nodes) (e : Bool) (listed left : List Line) (all : List LineTree) → left ≡ [] → map (line_in nodes) listed ++ left_of nodes e left ≡ all → map (line_in nodes) listed ≡ all
all_listed nodes e listed left all none so_far = sym (append-nil (map (line_in nodes) listed)) ∙ (ap (λ ls. map (line_in nodes) listed ++ left_of nodes e ls) (sym none) ∙ so_far)

pub first_left : (nodes : Nodes) (e : Bool) (listed left : List Line) (xs : List LineTree) → listed ≡ [] → left_of nodes e left ≡ xs ++ left_of nodes e [] → map (line_in nodes) listed ++ left_of nodes e left ≡ xs
first_left nodes e listed left xs none is = ap (λ ls. map (line_in nodes) ls ++ left_of nodes e left) none ∙ (is ∙ append-nil xs)

pub told_ok : {A E P : Type 0} (r : Result A E) → P → OnOk r P
told_ok (Ok x) p = p
told_ok (Err fault) p = tt

pub none_left : {A : Type 0} (xs : List A) → length xs ≡ 0 → xs ≡ []
none_left [] is = refl
none_left (x ∷ xs) is = absurd (omega (arith, is))

abbrev pub no_line : Line
no_line = record { stmt = record { 0 = 0 }; switched = false }

pub lines_rest : (nodes : Nodes) (ls : List Line) (i : ℕ) → i < length ls → HasLines nodes (drop i ls) → HasLines nodes (drop (i + 1) ls)
lines_rest nodes ls i within h = (subst (λ (xs : List Line). HasLines nodes xs) (unroll ls i no_line within) h).1
