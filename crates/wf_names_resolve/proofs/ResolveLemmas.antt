-- The resolved trees of lists that are made one by one, and the arguments of calls.
use Rattle.std.proofs.Common.{◌≡◌, ◌+◌, ◌<◌, ◌≤◌, ℕ, zero, suc, Bool, true, false, if◌then◌else◌, slice_get, List, [], ◌∷◌, ◌++◌, Option, Some, None, length, map, drop, slice_index_or, option_map, bytes_eq, refl, sym, ap, ◌∙◌, subst, arith}
use Rattle.std.specs.List.{AllByRecursion, find}
use Rattle.wf_text.specs.declared.place.Place.{Place}
use Rattle.wf_base.specs.declared.base_methods.ArgTy.{ArgTy}
use Rattle.wf_base.specs.declared.marks.Mark.{Mark}
use Rattle.wf_base.specs.BaseTable.{row_of}
use Rattle.wf_ast.specs.declared.numbers.ExprId.{ExprId}
use Rattle.wf_ast.specs.declared.operators.Op.{Op}
use Rattle.wf_ast.specs.declared.parsed.Bounds.{Bounds}
use Rattle.wf_ast.specs.declared.parsed.Core.{Core}
use Rattle.wf_ast.specs.declared.parsed.Core.TheVariants as cores
use Rattle.wf_ast.specs.declared.parsed.Given.{Given}
use Rattle.wf_ast.specs.declared.parsed.Link.{Link}
use Rattle.wf_ast.specs.declared.parsed.Name.{Name}
use Rattle.wf_ast.specs.declared.parsed.Prefix.{Prefix}
use Rattle.wf_ast.specs.declared.parsed.Receiver.{Receiver}
use Rattle.wf_ast.specs.declared.parsed.WrittenMark.{WrittenMark}
use Rattle.wf_ast.specs.ParsedTree as parsed_tree
use Rattle.wf_ast.specs.ParsedTree.{ExprTree, GivenTrees, TypeTree}
use Rattle.wf_ast.specs.ParsedTrees as parsed
use Rattle.wf_ast.specs.ParsedParts.{LinksBelow, GivenBelow, PrefixBelow}
use Rattle.wf_ast.proofs.TreeLemmas.{all_map, all_push, GivenBelow-more, PrefixBelow-more, LinksBelow-more}
use Rattle.wf_named.specs.declared.nodes.BaseType.TheVariants as bases
use Rattle.wf_named.specs.declared.nodes.NamedCallee.{NamedCallee}
use Rattle.wf_named.specs.declared.nodes.NamedCore.{NamedCore}
use Rattle.wf_named.specs.NamedTree as tree
use Rattle.wf_named.specs.NamedTree.{NamedExprTree, NamedLinkTrees, NamedTypeTree}
use Rattle.wf_named.specs.NamedTrees.{expr_at, links_at, args_at, bounds_at, core_at, prefixed, all_prefixed}
use Rattle.wf_named.specs.NamedParts.{NamedParts, exprs_of, ArgsBelow}
use Rattle.wf_names_rules.specs.declared.callees.Callee.{Callee}
use Rattle.wf_names_rules.specs.declared.callees.Callee.TheVariants as callees
use Rattle.wf_names_rules.specs.Declarations.{is_spelt}
use Rattle.wf_names_rules.proofs.WalkLemmas.{drop-one}
use Rattle.wf_names_resolve.specs.Standing.{Standing}
use Rattle.wf_names_resolve.specs.Resolved.{base_type_named, callee_at, resolved_mark, resolved_call, resolved_bounds, NamedGiven, with_arg, args_named, args_spelt, args_for, resolved_expr, resolved_links, resolved_given, resolved_type}
use Rattle.wf_names_resolve.specs.Ordered.{value_in, values_named, values_spelt, values_for, given_tree, given_trees}
use Rattle.wf_names_resolve.specs.Growth.{Grows}
use Rattle.wf_names_resolve.specs.Prefixes.{ResolvesPrefix, ResolvesPrefixes, resolved_core}
use Rattle.wf_names_resolve.proofs.Growth.{grows_self, grows_more, links_kept, given_kept, prefixes_kept}

pub chain_made : (op : Op) (a b : NamedExprTree) (ls ms : NamedLinkTrees) (at : Place) → a ≡ b → ls ≡ ms → tree.chain op a ls at ≡ tree.chain op b ms at
chain_made op a b ls ms at e f = ap (λ x. tree.chain op x ls at) e ∙ ap (λ x. tree.chain op b x at) f

pub conversion_made : (a b : NamedExprTree) (to' to : NamedTypeTree) (at : Place) → a ≡ b → to' ≡ to → tree.convert a to' at ≡ tree.convert b to at
conversion_made a b to' to at e f = ap (λ x. tree.convert x to' at) e ∙ ap (λ x. tree.convert b x at) f

append_end : {X : Type 0} (xs : List X) → xs ++ [] ≡ xs
append_end [] = refl
append_end (x ∷ xs) = ap (λ ys. x ∷ ys) (append_end xs)

append_seam : {X : Type 0} (xs : List X) (y : X) (ys : List X) → (xs ++ y ∷ []) ++ ys ≡ xs ++ y ∷ ys
append_seam [] y ys = refl
append_seam (x ∷ xs) y ys = ap (λ zs. x ∷ zs) (append_seam xs y ys)

append_more : {X : Type 0} (xs ys zs : List X) → (xs ++ ys) ++ zs ≡ xs ++ (ys ++ zs)
append_more [] ys zs = refl
append_more (x ∷ xs) ys zs = ap (λ us. x ∷ us) (append_more xs ys zs)

pub all_append : {X : Type 0} (P : X → Type 0) (xs ys : List X) → AllByRecursion P xs → AllByRecursion P ys → AllByRecursion P (xs ++ ys)
all_append P [] ys a b = b
all_append P (x ∷ xs) ys a b = (a.0, all_append P xs ys a.1 b)

-- What is found among given values has the tree that is found among their trees.
find_given : (ts : List NamedExprTree) (test : Name → Bool) (gs : List Given) → find (λ g. test g.name) (given_trees ts gs) ≡ option_map (given_tree ts) (find (λ g. test g.name) gs)
find_given ts test [] = refl
find_given ts test (g ∷ gs) = pick (test g.name) (find_given ts test gs)
  where
    pick : (b : Bool) → find (λ g. test g.name) (given_trees ts gs) ≡ option_map (given_tree ts) (find (λ g. test g.name) gs)
        → (if b then Some (given_tree ts g) else find (λ g. test g.name) (given_trees ts gs)) ≡ option_map (given_tree ts) (if b then Some g else find (λ g. test g.name) gs)
    pick true e = refl
    pick false e = e

arg_placed : (ts : List NamedExprTree) (o : Option Given) (es : List ExprId) → args_at ts (value_in o ++ es) ≡ with_arg (option_map (given_tree ts) o) (args_at ts es)
arg_placed ts None es = refl
arg_placed ts (Some g) es = refl

args_named_same : (ts : List NamedExprTree) (gs : List Given) (wanted : List ℕ) → args_at ts (values_named gs wanted) ≡ args_named (given_trees ts gs) wanted
args_named_same ts gs [] = refl
args_named_same ts gs (text ∷ texts) =
    arg_placed ts (find (λ g. is_spelt text g.name) gs) (values_named gs texts)
    ∙ ap (with_arg (option_map (given_tree ts) (find (λ g. is_spelt text g.name) gs))) (args_named_same ts gs texts)
    ∙ ap (λ o. with_arg o (args_named (given_trees ts gs) texts)) (sym (find_given ts (is_spelt text) gs))

args_spelt_same : (bytes : ℕ → List ℕ) (ts : List NamedExprTree) (gs : List Given) (wanted : List (List ℕ)) → args_at ts (values_spelt bytes gs wanted) ≡ args_spelt bytes (given_trees ts gs) wanted
args_spelt_same bytes ts gs [] = refl
args_spelt_same bytes ts gs (name ∷ names) =
    let test : Name → Bool = λ n. bytes_eq name (bytes n.text.0) in
    arg_placed ts (find (λ g. test g.name) gs) (values_spelt bytes gs names)
    ∙ ap (with_arg (option_map (given_tree ts) (find (λ g. test g.name) gs))) (args_spelt_same bytes ts gs names)
    ∙ ap (λ o. with_arg o (args_spelt bytes (given_trees ts gs) names)) (sym (find_given ts test gs))

pub args_same : (k : Standing) (ts : List NamedExprTree) (callee : Callee) (gs : List Given) → args_at ts (values_for k.bytes k.args callee gs) ≡ args_for k callee (given_trees ts gs)
args_same k ts (callees.Own m) gs = args_named_same ts gs (k.args m)
args_same k ts (callees.Base sig) gs = args_spelt_same k.bytes ts gs (map (λ arg. arg.0) (row_of sig).args)
args_same k ts (callees.Hidden m) gs = refl
args_same k ts callees.Foreign gs = refl
args_same k ts callees.Missing gs = refl
args_same k ts callees.Baseless gs = refl

found_below : (n : ℕ) (test : Given → Bool) (gs : List Given) → GivenBelow n gs → ArgsBelow n (value_in (find test gs))
found_below n test [] h = tt
found_below n test (g ∷ gs) h = pick (test g) (found_below n test gs h.1)
  where
    pick : (b : Bool) → ArgsBelow n (value_in (find test gs)) → ArgsBelow n (value_in (if b then Some g else find test gs))
    pick true e = (h.0, tt)
    pick false e = e

named_below : (n : ℕ) (gs : List Given) → GivenBelow n gs → (wanted : List ℕ) → ArgsBelow n (values_named gs wanted)
named_below n gs h [] = tt
named_below n gs h (text ∷ texts) =
    all_append (λ e. e.0 < n) (value_in (find (λ g. is_spelt text g.name) gs)) (values_named gs texts) (found_below n (λ g. is_spelt text g.name) gs h) (named_below n gs h texts)

spelt_below : (n : ℕ) (bytes : ℕ → List ℕ) (gs : List Given) → GivenBelow n gs → (wanted : List (List ℕ)) → ArgsBelow n (values_spelt bytes gs wanted)
spelt_below n bytes gs h [] = tt
spelt_below n bytes gs h (name ∷ names) =
    let test : Given → Bool = λ g. bytes_eq name (bytes g.name.text.0) in
    all_append (λ e. e.0 < n) (value_in (find test gs)) (values_spelt bytes gs names) (found_below n test gs h) (spelt_below n bytes gs h names)

pub args_below : (n : ℕ) (bytes : ℕ → List ℕ) (args : ℕ → List ℕ) (callee : Callee) (gs : List Given) → GivenBelow n gs → ArgsBelow n (values_for bytes args callee gs)
args_below n bytes args (callees.Own m) gs h = named_below n gs h (args m)
args_below n bytes args (callees.Base sig) gs h = spelt_below n bytes gs h (map (λ arg. arg.0) (row_of sig).args)
args_below n bytes args (callees.Hidden m) gs h = tt
args_below n bytes args callees.Foreign gs h = tt
args_below n bytes args callees.Missing gs h = tt
args_below n bytes args callees.Baseless gs h = tt

-- The arguments of a base method after the first of them.
drop_found : {X : Type 0} (xs : List X) (i : ℕ) (x : X) → slice_get xs i ≡ Some x → drop i xs ≡ x ∷ drop (suc i) xs
drop_found [] i x e = absurd (cc e)
drop_found (y ∷ ys) zero x e = let same : y ≡ x = cc e in ap (λ z. z ∷ ys) same
drop_found (y ∷ ys) (suc i) x e = drop_found ys i x e

pub spelt_step : (bytes : ℕ → List ℕ) (gs : List Given) (args : List (List ℕ × ArgTy)) (i : ℕ) (x : List ℕ × ArgTy) (old new : List ExprId) → slice_get args i ≡ Some x
    → new ≡ old ++ value_in (find (λ g. bytes_eq x.0 (bytes g.name.text.0)) gs)
    → new ++ values_spelt bytes gs (map (λ arg. arg.0) (drop (i + 1) args)) ≡ old ++ values_spelt bytes gs (map (λ arg. arg.0) (drop i args))
spelt_step bytes gs args i x old new e h =
    let one = value_in (find (λ g. bytes_eq x.0 (bytes g.name.text.0)) gs) in
    let rest = values_spelt bytes gs (map (λ arg. arg.0) (drop (suc i) args)) in
    let next : suc i ≡ i + 1 = omega arith in
    let P : ℕ → Type 0 = λ j. new ++ values_spelt bytes gs (map (λ arg. arg.0) (drop j args)) ≡ old ++ values_spelt bytes gs (map (λ arg. arg.0) (drop i args)) in
    subst P next (ap (λ es. es ++ rest) h ∙ append_more old one rest ∙ sym (ap (λ xs. old ++ values_spelt bytes gs (map (λ arg. arg.0) xs)) (drop_found args i x e)))

-- Operands after those of another list.
abbrev pub links_behind : NamedLinkTrees → NamedLinkTrees → NamedLinkTrees
links_behind tree.no_link others = others
links_behind (tree.link sign operand first) others = tree.link sign operand (links_behind first others)

pub links_end : (ls : NamedLinkTrees) → links_behind ls tree.no_link ≡ ls
links_end tree.no_link = refl
links_end (tree.link sign operand others) = ap (tree.link sign operand) (links_end others)

links_push : (ts : List NamedExprTree) (ls : List Link) (l : Link) (others : NamedLinkTrees)
    → links_behind (links_at ts (ls ++ l ∷ [])) others ≡ links_behind (links_at ts ls) (tree.link l.sign (expr_at ts l.operand) others)
links_push ts [] l others = refl
links_push ts (x ∷ ls) l others = ap (tree.link x.sign (expr_at ts x.operand)) (links_push ts ls l others)

all_prefixed_push : (ts : List NamedExprTree) (ps : List Prefix) (p : Prefix) (t : NamedTypeTree) → all_prefixed ts (ps ++ p ∷ []) t ≡ all_prefixed ts ps (prefixed ts p t)
all_prefixed_push ts [] p t = refl
all_prefixed_push ts (x ∷ ps) p t = ap (prefixed ts x) (all_prefixed_push ts ps p t)

given_push : (ts : List NamedExprTree) (gs : List Given) (g : Given) → given_trees ts (gs ++ g ∷ []) ≡ given_trees ts gs ++ given_tree ts g ∷ []
given_push ts [] g = refl
given_push ts (x ∷ gs) g = ap (λ xs. given_tree ts x ∷ xs) (given_push ts gs g)

-- A type's end.
pub core_same : (k : Standing) (ts : List NamedExprTree) (es : List ExprTree) (of : Core) (a b : Option Bounds) → bounds_at ts a ≡ resolved_bounds k (parsed.bounds_at es b)
    → core_at ts (resolved_core k.bytes k.structure of) a ≡ resolved_type k (parsed.core_at es of b)
core_same k ts es (cores.Base name at) a b e = ap (tree.base_type (base_type_named (k.bytes name.text.0)) at) e
core_same k ts es (cores.BaseStatus at) a b e = ap (tree.base_type (Some bases.Status) at) e
core_same k ts es (cores.Struct name) a b e = refl

-- What a loop keeps over operands, given values and prefixes, of which it has made some.
pub record LinksMade (k : Standing) (es : List ExprTree) (links : List Link) (i : ℕ) (p q : NamedParts) (made : List Link) : Type 0 where
  pub grows : Grows p q
  pub below : LinksBelow (length q.exprs) made
  pub trees : links_behind (links_at (exprs_of q) made) (resolved_links k (parsed.links_at es (drop i links))) ≡ resolved_links k (parsed.links_at es links)

pub record GivenMade (k : Standing) (es : List ExprTree) (given : List Given) (i : ℕ) (p q : NamedParts) (made : List Given) : Type 0 where
  pub grows : Grows p q
  pub below : GivenBelow (length q.exprs) made
  pub trees : given_trees (exprs_of q) made ++ resolved_given k (parsed.given_at es (drop i given)) ≡ resolved_given k (parsed.given_at es given)

pub record PrefixesMade (k : Standing) (es : List ExprTree) (prefixes : List Prefix) (i : ℕ) (p q : NamedParts) (made : List Prefix) : Type 0 where
  pub grows : Grows p q
  pub below : AllByRecursion (PrefixBelow (length q.exprs)) made
  pub trees : (of : TypeTree) → all_prefixed (exprs_of q) made (resolved_type k (parsed.all_prefixed es (drop i prefixes) of)) ≡ resolved_type k (parsed.all_prefixed es prefixes of)

-- Before the first nothing is made.
module _ (k : Standing) (es : List ExprTree) (p : NamedParts) where
  pub links_start : (links made : List Link) → made ≡ [] → LinksMade k es links 0 p p made
  links_start links made e =
      let P : List Link → Type 0 = λ m. LinksMade k es links 0 p p m in
      let none : LinksMade k es links 0 p p [] = record { grows = grows_self p; below = tt; trees = refl } in
      subst P (sym e) none

  pub given_start : (given made : List Given) → made ≡ [] → GivenMade k es given 0 p p made
  given_start given made e =
      let P : List Given → Type 0 = λ m. GivenMade k es given 0 p p m in
      let none : GivenMade k es given 0 p p [] = record { grows = grows_self p; below = tt; trees = refl } in
      subst P (sym e) none

  pub prefixes_start : (prefixes made : List Prefix) → made ≡ [] → PrefixesMade k es prefixes 0 p p made
  prefixes_start prefixes made e =
      let P : List Prefix → Type 0 = λ m. PrefixesMade k es prefixes 0 p p m in
      let none : PrefixesMade k es prefixes 0 p p [] = record { grows = grows_self p; below = tt; trees = λ of. refl } in
      subst P (sym e) none

module _ (k : Standing) (es : List ExprTree) (p q r : NamedParts) (i : ℕ) where
  pub link_made : (links made : List Link) (d : Link) (e : ExprId) → i < length links → LinksMade k es links i p q made → Grows q r → e.0 < length r.exprs
      → expr_at (exprs_of r) e ≡ resolved_expr k (parsed.expr_at es (slice_index_or links i d).operand)
      → LinksMade k es links (i + 1) p r (made ++ record { sign = (slice_index_or links i d).sign; operand = e } ∷ [])
  link_made links made d e h m g b is =
      let x = slice_index_or links i d in
      let l : Link = record { sign = x.sign; operand = e } in
      let rest = resolved_links k (parsed.links_at es (drop (i + 1) links)) in
      let trees : links_behind (links_at (exprs_of r) (made ++ l ∷ [])) rest ≡ resolved_links k (parsed.links_at es links) =
      links_push (exprs_of r) made l rest
      ∙ ap (λ o. links_behind (links_at (exprs_of r) made) (tree.link x.sign o rest)) is
      ∙ ap (λ ls. links_behind ls (tree.link x.sign (resolved_expr k (parsed.expr_at es x.operand)) rest)) (links_kept q r g made m.below)
      ∙ sym (ap (λ xs. links_behind (links_at (exprs_of q) made) (resolved_links k (parsed.links_at es xs))) (drop-one links i d h))
      ∙ m.trees in
      record {
        grows = grows_more p q r m.grows g;
        below = all_push (λ l. l.operand.0 < length r.exprs) made l (LinksBelow-more (length q.exprs) (length r.exprs) g.exprs made m.below) b;
        trees = trees;
      }

  pub given_made : (given made : List Given) (d : Given) (e : ExprId) → i < length given → GivenMade k es given i p q made → Grows q r → e.0 < length r.exprs
      → expr_at (exprs_of r) e ≡ resolved_expr k (parsed.expr_at es (slice_index_or given i d).value)
      → GivenMade k es given (i + 1) p r (made ++ record { name = (slice_index_or given i d).name; value = e } ∷ [])
  given_made given made d e h m g b is =
      let x = slice_index_or given i d in
      let l : Given = record { name = x.name; value = e } in
      let rest = resolved_given k (parsed.given_at es (drop (i + 1) given)) in
      let one : NamedGiven = record { name = x.name; value = resolved_expr k (parsed.expr_at es x.value) } in
      let trees : given_trees (exprs_of r) (made ++ l ∷ []) ++ rest ≡ resolved_given k (parsed.given_at es given) =
      ap (λ xs. xs ++ rest) (given_push (exprs_of r) made l)
      ∙ append_seam (given_trees (exprs_of r) made) (given_tree (exprs_of r) l) rest
      ∙ ap (λ v. given_trees (exprs_of r) made ++ record { name = x.name; value = v } ∷ rest) is
      ∙ ap (λ xs. xs ++ one ∷ rest) (given_kept q r g made m.below)
      ∙ sym (ap (λ xs. given_trees (exprs_of q) made ++ resolved_given k (parsed.given_at es xs)) (drop-one given i d h))
      ∙ m.trees in
      record {
        grows = grows_more p q r m.grows g;
        below = all_push (λ l. l.value.0 < length r.exprs) made l (GivenBelow-more (length q.exprs) (length r.exprs) g.exprs made m.below) b;
        trees = trees;
      }

  pub prefix_made : (prefixes made : List Prefix) (d next : Prefix) → i < length prefixes → PrefixesMade k es prefixes i p q made → Grows q r → PrefixBelow (length r.exprs) next
      → ResolvesPrefix k es (slice_index_or prefixes i d) (exprs_of r) next → PrefixesMade k es prefixes (i + 1) p r (made ++ next ∷ [])
  prefix_made prefixes made d next h m g b is =
      let trees : (of : TypeTree) → all_prefixed (exprs_of r) (made ++ next ∷ []) (resolved_type k (parsed.all_prefixed es (drop (i + 1) prefixes) of)) ≡ resolved_type k (parsed.all_prefixed es prefixes of) =
      λ of.
      let rest = parsed.all_prefixed es (drop (i + 1) prefixes) of in
      all_prefixed_push (exprs_of r) made next (resolved_type k rest)
      ∙ ap (all_prefixed (exprs_of r) made) (is rest)
      ∙ prefixes_kept q r g made (resolved_type k (parsed.prefixed es (slice_index_or prefixes i d) rest)) m.below
      ∙ sym (ap (λ xs. all_prefixed (exprs_of q) made (resolved_type k (parsed.all_prefixed es xs of))) (drop-one prefixes i d h))
      ∙ m.trees of in
      record {
        grows = grows_more p q r m.grows g;
        below = all_push (PrefixBelow (length r.exprs)) made next (all_map (PrefixBelow (length q.exprs)) (PrefixBelow (length r.exprs)) (PrefixBelow-more (length q.exprs) (length r.exprs) g.exprs) made m.below) b;
        trees = trees;
      }

  -- After the last there is nothing to make.
  pub links_made : (links made : List Link) → drop i links ≡ [] → LinksMade k es links i p q made → links_at (exprs_of q) made ≡ resolved_links k (parsed.links_at es links)
  links_made links made e m =
      sym (links_end (links_at (exprs_of q) made)) ∙ sym (ap (λ xs. links_behind (links_at (exprs_of q) made) (resolved_links k (parsed.links_at es xs))) e) ∙ m.trees

  pub all_given_made : (given made : List Given) → drop i given ≡ [] → GivenMade k es given i p q made → given_trees (exprs_of q) made ≡ resolved_given k (parsed.given_at es given)
  all_given_made given made e m =
      sym (append_end (given_trees (exprs_of q) made)) ∙ sym (ap (λ xs. given_trees (exprs_of q) made ++ resolved_given k (parsed.given_at es xs)) e) ∙ m.trees

  pub prefixes_made : (prefixes made : List Prefix) → drop i prefixes ≡ [] → PrefixesMade k es prefixes i p q made → ResolvesPrefixes k es prefixes (exprs_of q) made
  prefixes_made prefixes made e m of = sym (ap (λ xs. all_prefixed (exprs_of q) made (resolved_type k (parsed.all_prefixed es xs of))) e) ∙ m.trees of

-- A call, by its parts.
pub call_made : (k : Standing) (ts : List NamedExprTree) (rec : Receiver) (name : Name) (written : WrittenMark) (gs : GivenTrees) (given : List Given) (on : Callee) (callee : NamedCallee) (mark : Mark) (args : List ExprId)
    → on ≡ k.callee rec name.text.0 → callee ≡ callee_at k rec on → mark ≡ resolved_mark written → args ≡ values_for k.bytes k.args on given → given_trees ts given ≡ resolved_given k gs
    → tree.call callee name.at mark (args_at ts args) ≡ resolved_call k (parsed_tree.call rec name written gs)
call_made k ts rec name written gs given on callee mark args e1 e2 e3 e4 e5 =
    let a : args_at ts args ≡ args_for k on (resolved_given k gs) = ap (args_at ts) e4 ∙ args_same k ts on given ∙ ap (args_for k on) e5 in
    ap (λ x. tree.call x name.at mark (args_at ts args)) e2
    ∙ ap (λ x. tree.call (callee_at k rec on) name.at x (args_at ts args)) e3
    ∙ ap (λ x. tree.call (callee_at k rec on) name.at (resolved_mark written) x) a
    ∙ ap (λ x. tree.call (callee_at k rec x) name.at (resolved_mark written) (args_for k x (resolved_given k gs))) e1

-- A type, by its parts.
pub type_made : (k : Standing) (es : List ExprTree) (q r : NamedParts) → Grows q r → (prefixes made : List Prefix) (core : Core) (named : NamedCore) (bounds : Option Bounds) (own : Option Bounds)
    → AllByRecursion (PrefixBelow (length q.exprs)) made → ResolvesPrefixes k es prefixes (exprs_of q) made → named ≡ resolved_core k.bytes k.structure core
    → bounds_at (exprs_of r) own ≡ resolved_bounds k (parsed.bounds_at es bounds)
    → all_prefixed (exprs_of r) made (core_at (exprs_of r) named own) ≡ resolved_type k (parsed.all_prefixed es prefixes (parsed.core_at es core bounds))
type_made k es q r g prefixes made core named bounds own b is e h =
    ap (all_prefixed (exprs_of r) made) (ap (λ c. core_at (exprs_of r) c own) e ∙ core_same k (exprs_of r) es core own bounds h)
    ∙ prefixes_kept q r g made (resolved_type k (parsed.core_at es core bounds)) b ∙ is (parsed.core_at es core bounds)

-- Numbers stay below those of more nodes.
pub prefixes_below : (k l : ℕ) → k ≤ l → (ps : List Prefix) → AllByRecursion (PrefixBelow k) ps → AllByRecursion (PrefixBelow l) ps
prefixes_below k l m ps h = all_map (PrefixBelow k) (PrefixBelow l) (PrefixBelow-more k l m) ps h
