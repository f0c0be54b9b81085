-- What is built is a file, and its trees are what is made.
use Rattle.std.proofs.Common.{◌≡◌, ◌∙◌, ◌-◌, ap, sym, subst, ℕ, suc, Bool, true, false, ◌&&◌, Option, Some, List, [], ◌∷◌, ◌++◌, length, refl, nat_eq, nat_le, if◌then◌else◌}
use Rattle.std.specs.Bool.{⊤}
use Rattle.wf_text.specs.declared.rules.Rule.{Rule}
use Rattle.wf_text.specs.declared.rules.Rule.TheVariants.{S5, L4, L5}
use Rattle.wf_ast.specs.ParsedTree.{DeclTree}
use Rattle.wf_parse_grammar.specs.declared.tokens.Kind.{Kind}
use Rattle.wf_parse_grammar.specs.declared.tokens.Token.{Token}
use Rattle.wf_parse_grammar.specs.declared.symbols.Sym.TheVariants as syms
use Rattle.wf_parse_grammar.specs.declared.symbols.Want.{Want}
use Rattle.wf_parse_grammar.specs.declared.symbols.Want.TheVariants.{Read, Make}
use Rattle.wf_parse_grammar.specs.Grammar.{FileForm, file_before}
use Rattle.wf_parse_grammar.specs.Meaning.{file_trees}
use Rattle.wf_parse_grammar.specs.Machine as m
use Rattle.wf_parse_grammar.specs.Machine.{may_end, opens}
use Rattle.wf_parse_grammar.specs.Files.{IsFile}
use Rattle.wf_parse_grammar.specs.Building.{Build, Take, Begin, Enter, Pass, Stop, build, Ending, Built, Refused, skipped, step, after, unless, ends, run, open_wants}
use Rattle.wf_parse_grammar.specs.Values.{Made, perform}
use Rattle.wf_parse_grammar.specs.Erasure.{outcome}
use Rattle.wf_parse_grammar.proofs.Erasing.{same-run}
use Rattle.wf_parse_grammar.proofs.Refusal.{Found, found, accepted-file}
use Rattle.wf_parse_grammar.proofs.Tracking.{Ends, Through, tracked, track-feeds}
use Rattle.wf_parse_grammar.proofs.Makes.{go, if_may, makes, is_built, makes-run}
use Rattle.wf_parse_grammar.proofs.MakesFirst.{made}
use Rattle.wf_parse_grammar.proofs.MakesFile.{b-file}

-- The trees of a file, after these declarations.
file-makes : (f : FileForm) (d : List DeclTree) → makes (Read syms.File ∷ []) (file_before f []) (made [] d) ≡ Some (made [] (d ++ file_trees f))
file-makes f d = b-file f [] [] [] d

pub file-built : (f : FileForm) (room : ℕ) (d : List DeclTree) → run false room (file_before f []) (Read syms.File ∷ []) (made [] d) ≡ Built (made [] (d ++ file_trees f))
file-built f room d = is_built _ _ (makes-run (file_before f []) room (Read syms.File ∷ []) (made [] d) ∙ file-makes f d)

pub one-meaning : (f g : FileForm) → file_before f [] ≡ file_before g [] → file_trees f ≡ file_trees g
one-meaning f g e =
    let one : makes (Read syms.File ∷ []) (file_before f []) (made [] []) ≡ Some (made [] (file_trees f)) = file-makes f [] in
    let other : makes (Read syms.File ∷ []) (file_before g []) (made [] []) ≡ Some (made [] (file_trees g)) = file-makes g [] in
    let same : made [] (file_trees f) ≡ made [] (file_trees g) = cc (one, other, e) in
    ap (λ x. x.decls) same

-- A run that is built, with limits or without, makes what the run without limits does.
abbrev OnBuilt : Ending → Option Made → Type 0
OnBuilt (Built x) o = o ≡ Some x
OnBuilt (Refused r left) o = ⊤

on-unless : (b : Bool) (r : Rule) (left : ℕ) (e : Ending) (o : Option Made) → OnBuilt e o → OnBuilt (unless b r left e) o
on-unless true r left e o h = tt
on-unless false r left e o h = h

on-after : (limited : Bool) (w : Build) (room : ℕ) (whole below : List Want) (x : Made) (t : Kind) (left : ℕ) (next : ℕ → List Want → Made → Ending)
    (passed : Ending) (read : List Want → Option Made) (o : Option Made)
    → ((room : ℕ) (xs : List Want) → OnBuilt (next room (xs ++ below) x) (read xs)) → OnBuilt passed o
    → OnBuilt (after limited room w whole below x t left next passed) (go w read o)
on-after limited (Take xs) room whole below x t left next passed read o h e = on-unless (limited && opens t && nat_le 48 (open_wants whole)) L4 left _ _ (h room xs)
on-after limited (Begin xs) room whole below x t left next passed read o h e = on-unless (limited && nat_eq room 0) L5 left _ _ (h (room - 1) xs)
on-after limited (Enter xs) room whole below x t left next passed read o h e = on-unless (limited && nat_le 48 (open_wants whole)) L4 left _ _ (h 4096 xs)
on-after limited Pass room whole below x t left next passed read o h e = e
on-after limited (Stop r) room whole below x t left next passed read o h e = tt

on-step : (limited : Bool) (k : List Want) (room : ℕ) (x : Made) (t : Token) (ts : List Token) (left : ℕ) (next : ℕ → List Want → Made → Ending)
    → ((room : ℕ) (k : List Want) (x : Made) → OnBuilt (next room k x) (makes k ts x))
    → OnBuilt (step limited room k x t left next) (makes k (t ∷ ts) x)
on-step limited [] room x t ts left next h = tt
on-step limited (Make a ∷ k) room x t ts left next h = on-step limited k room (perform a x) t ts left next h
on-step limited (Read s ∷ k) room x t ts left next h =
    on-after limited (build s t.kind t.at) room (Read s ∷ k) k x t.kind left next _ (λ xs. makes (xs ++ k) ts x) _
    (λ room_left xs. h room_left (xs ++ k) x) (on-step limited k room (skipped s x) t ts left next h)

on-ends : (k : List Want) (x : Made) → OnBuilt (ends k x) (makes k [] x)
on-ends [] x = refl
on-ends (Make a ∷ k) x = on-ends k (perform a x)
on-ends (Read s ∷ k) x = on-if (may_end s) _ _ (on-ends k (skipped s x))
  where
    on-if : (c : Bool) (e : Ending) (o : Option Made) → OnBuilt e o → OnBuilt (if c then e else Refused S5 0) (if_may c o)
    on-if true e o h = h
    on-if false e o h = tt

on-run : (limited : Bool) (ts : List Token) (room : ℕ) (k : List Want) (x : Made) → OnBuilt (run limited room ts k x) (makes k ts x)
on-run limited [] room k x = on-ends k x
on-run limited (t ∷ ts) room k x = on-step limited k room x t ts (suc (length ts)) _ (λ room_left wanted after_it. on-run limited ts room_left wanted after_it)

-- What is built is what a file means.
built-accepted : (limited : Bool) (room : ℕ) (ts : List Token) (x : Made) (d : List DeclTree) → run limited room ts (Read syms.File ∷ []) (made [] d) ≡ Built x
    → m.run limited room ts (syms.File ∷ []) ≡ m.Accepted
built-accepted limited room ts x d e = sym (same-run limited room ts (Read syms.File ∷ []) (made [] d)) ∙ ap outcome e

accepted-right : (limited : Bool) (room : ℕ) (ts : List Token) → m.run limited room ts (syms.File ∷ []) ≡ m.Accepted → IsFile ts
accepted-right true room ts e =
    let P : m.Outcome → Type 0 = λ o. Ends room ts (syms.File ∷ []) o in
    let h : Through room ts (syms.File ∷ []) = subst P e (tracked ts room (syms.File ∷ [])) in
    accepted-file ts (record { wanted = h.wanted; read = track-feeds ts room (syms.File ∷ []) h.left h.wanted h.reads; ends' = h.over })
accepted-right false room ts e =
    let P : m.Outcome → Type 0 = λ o. Found ts (syms.File ∷ []) o in
    accepted-file ts (subst P e (found ts room (syms.File ∷ [])))

pub built-file : (limited : Bool) (room : ℕ) (ts : List Token) (d : List DeclTree) (x : Made) → run limited room ts (Read syms.File ∷ []) (made [] d) ≡ Built x
    → (f : FileForm) × (ts ≡ file_before f []) × (x ≡ made [] (d ++ file_trees f))
built-file limited room ts d x e =
    let file : IsFile ts = accepted-right limited room ts (built-accepted limited room ts x d e) in
    let P : Ending → Type 0 = λ o. OnBuilt o (makes (Read syms.File ∷ []) ts (made [] d)) in
    let here : makes (Read syms.File ∷ []) ts (made [] d) ≡ Some x = subst P e (on-run limited ts room (Read syms.File ∷ []) (made [] d)) in
    let there : makes (Read syms.File ∷ []) ts (made [] d) ≡ Some (made [] (d ++ file_trees file.0)) =
    ap (λ us. makes (Read syms.File ∷ []) us (made [] d)) file.1 ∙ file-makes file.0 d in
    (file.0, file.1, cc (here, there))
