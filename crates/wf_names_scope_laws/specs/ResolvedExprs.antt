-- When a resolved expression is that of a parsed one: it has its form and its places, and each number in it is that of the one
-- declaration that the name there means.
use Rattle.std.specs.Prelude.{◌≡◌, ℕ, Bool, List, [], ◌∷◌, map, Some, slice_get}
use Rattle.wf_text.specs.declared.place.Place.{Place}
use Rattle.wf_base.specs.declared.base_methods.BaseSig.{BaseSig}
use Rattle.wf_base.specs.BaseTable.{row_of}
use Rattle.wf_ast.specs.declared.operators.Op.{Op}
use Rattle.wf_ast.specs.declared.parsed.Name.{Name}
use Rattle.wf_ast.specs.declared.parsed.Path.{Path}
use Rattle.wf_ast.specs.declared.parsed.Receiver.{Receiver}
use Rattle.wf_ast.specs.declared.parsed.WrittenMark.{WrittenMark}
use Rattle.wf_ast.specs.ParsedTree as parsed
use Rattle.wf_ast.specs.ParsedTree.{ExprTree, PartTree, LinkTrees, GivenTrees, CallTree, TypeTree, BoundsTree}
use Rattle.wf_named.specs.declared.nodes.BaseType.TheVariants as bases
use Rattle.wf_named.specs.declared.nodes.NamedCallee.{NamedCallee}
use Rattle.wf_named.specs.declared.nodes.NamedCallee.TheVariants as named_callees
use Rattle.wf_named.specs.declared.nodes.NamedPath.{NamedPath}
use Rattle.wf_named.specs.NamedTree as tree
use Rattle.wf_named.specs.NamedTree.{NamedExprTree, NamedPartTree, NamedLinkTrees, NamedArgTrees, NamedCallTree, NamedTypeTree, NamedBoundsTree}
use Rattle.wf_names_rules.specs.Declarations.{Variable, Method, Declared, text_of}
use Rattle.wf_names_rules.specs.Meanings.{GivenValue, given_values}
use Rattle.wf_names_rules.specs.Uses.{Scope}
use Rattle.wf_names_resolve.specs.Resolved.{resolved_mark, base_type_named}
use Rattle.wf_names_scope_laws.specs.Scoping.{HasOne, IsTheOne, IsCalled, PathMeans, OwnStatusMeans, BaseStatusMeans, StructMeans, CalleeMeans}

-- Of what is given to a call the one under this name, and under one that is spelt so.
abbrev pub IsGivenFor : Variable → GivenValue → Type 0
IsGivenFor v g = IsCalled v.name.text.0 g.name

abbrev pub IsGivenUnder : Declared → (name : List ℕ) → GivenValue → Type 0
IsGivenUnder d name g = text_of d g.name.text.0 ≡ name

-- Nothing else is given: each value is for one of these arguments, or under one of these names.
abbrev pub AreAllWanted : List Variable → GivenTrees → Type 0
AreAllWanted vs given = (i : ℕ) (g : GivenValue) → slice_get (given_values given) i ≡ Some g → HasOne (λ v. IsGivenFor v g) vs

abbrev pub AreAllNamed : Declared → (names : List (List ℕ)) → GivenTrees → Type 0
AreAllNamed d names given = (i : ℕ) (g : GivenValue) → slice_get (given_values given) i ≡ Some g → HasOne (λ name. IsGivenUnder d name g) names

mutual
  pub data ResolvesExpr (d : Declared) (scope : Scope) : ExprTree → NamedExprTree → Type 0 where
    a_number : (value : ℕ) (at : Place) → ResolvesExpr d scope (parsed.number value at) (tree.number value at)
    an_own_status : (text : Name) (n : ℕ) → OwnStatusMeans d text.text.0 n → ResolvesExpr d scope (parsed.own_status text) (tree.status n text.at)
    a_base_status : (text : Name) (at : Place) (n : ℕ) → BaseStatusMeans d text.text.0 n → ResolvesExpr d scope (parsed.base_status text at) (tree.status n at)
    an_ok : (at : Place) → ResolvesExpr d scope (parsed.fine at) (tree.status 0 at)
    a_truth : (value : Bool) (at : Place) → ResolvesExpr d scope (parsed.truth value at) (tree.truth value at)
    a_path : (path : Path) (p : NamedPath) → PathMeans d scope path p → ResolvesExpr d scope (parsed.path path) (tree.path p)
    an_element : (base : Path) (p : NamedPath) (place : ExprTree) (e : NamedExprTree) (at : Place) → PathMeans d scope base p → ResolvesExpr d scope place e
        → ResolvesExpr d scope (parsed.index base place at) (tree.index p e at)
    a_slice : (base : Path) (p : NamedPath) (from to : PartTree) (low high : NamedPartTree) (at : Place) → PathMeans d scope base p → ResolvesPart d scope from low → ResolvesPart d scope to high
        → ResolvesExpr d scope (parsed.slice base from to at) (tree.slice p low high at)
    an_answer : (c : CallTree) (made : NamedCallTree) → ResolvesCall d scope c made → ResolvesExpr d scope (parsed.answer c) (tree.answer made)
    a_chain : (op : Op) (first : ExprTree) (e : NamedExprTree) (links : LinkTrees) (made : NamedLinkTrees) (at : Place) → ResolvesExpr d scope first e → ResolvesLinks d scope links made
        → ResolvesExpr d scope (parsed.chain op first links at) (tree.chain op e made at)
    a_conversion : (of : ExprTree) (e : NamedExprTree) (to : TypeTree) (t : NamedTypeTree) (at : Place) → ResolvesExpr d scope of e → ResolvesType d scope to t
        → ResolvesExpr d scope (parsed.convert of to at) (tree.convert e t at)
    a_negation : (of : ExprTree) (e : NamedExprTree) (at : Place) → ResolvesExpr d scope of e → ResolvesExpr d scope (parsed.negation of at) (tree.negation e at)

  pub data ResolvesPart (d : Declared) (scope : Scope) : PartTree → NamedPartTree → Type 0 where
    no_part : ResolvesPart d scope parsed.absent tree.absent
    a_part : (part : ExprTree) (e : NamedExprTree) → ResolvesExpr d scope part e → ResolvesPart d scope (parsed.present part) (tree.present e)

  pub data ResolvesLinks (d : Declared) (scope : Scope) : LinkTrees → NamedLinkTrees → Type 0 where
    no_links : ResolvesLinks d scope parsed.no_link tree.no_link
    more_links : (sign : Place) (operand : ExprTree) (e : NamedExprTree) (others : LinkTrees) (made : NamedLinkTrees) → ResolvesExpr d scope operand e → ResolvesLinks d scope others made
        → ResolvesLinks d scope (parsed.link sign operand others) (tree.link sign e made)

  -- the callee is what the method's name means there, and the arguments are those that it declares
  pub data ResolvesCall (d : Declared) (scope : Scope) : CallTree → NamedCallTree → Type 0 where
    a_call : (on : Receiver) (name : Name) (mark : WrittenMark) (given : GivenTrees) (callee : NamedCallee) (args : NamedArgTrees) → CalleeMeans d scope on name.text.0 callee
        → ResolvesArgs d scope given callee args → ResolvesCall d scope (parsed.call on name mark given) (tree.call callee name.at (resolved_mark mark) args)

  pub data ResolvesArgs (d : Declared) (scope : Scope) : GivenTrees → NamedCallee → NamedArgTrees → Type 0 where
    of_own : (given : GivenTrees) (n : ℕ) (m : Method) (args : NamedArgTrees) → slice_get d.methods n ≡ Some m → AreAllWanted m.args given → ResolvesNamed d scope given m.args args
        → ResolvesArgs d scope given (named_callees.Own (record { 0 = n })) args
    of_part : (given : GivenTrees) (x n : ℕ) (m : Method) (args : NamedArgTrees) → slice_get d.methods n ≡ Some m → AreAllWanted m.args given → ResolvesNamed d scope given m.args args
        → ResolvesArgs d scope given (named_callees.Sub (record { 0 = x }) (record { 0 = n })) args
    of_base : (given : GivenTrees) (on : NamedPath) (sig : BaseSig) (args : NamedArgTrees) → AreAllNamed d (map (λ arg. arg.0) (row_of sig).args) given
        → ResolvesSpelt d scope given (map (λ arg. arg.0) (row_of sig).args) args
        → ResolvesArgs d scope given (named_callees.Base on sig) args

  -- for each declared argument, in order, the value of the one that is given under its name
  pub data ResolvesNamed (d : Declared) (scope : Scope) : GivenTrees → List Variable → NamedArgTrees → Type 0 where
    none_named : (given : GivenTrees) → ResolvesNamed d scope given [] tree.no_arg
    one_named : (given : GivenTrees) (v : Variable) (vs : List Variable) (i : ℕ) (g : GivenValue) (e : NamedExprTree) (others : NamedArgTrees) → IsTheOne (IsGivenFor v) (given_values given) i g
        → ResolvesExpr d scope g.value e → ResolvesNamed d scope given vs others → ResolvesNamed d scope given (v ∷ vs) (tree.more_args e others)

  pub data ResolvesSpelt (d : Declared) (scope : Scope) : GivenTrees → (names : List (List ℕ)) → NamedArgTrees → Type 0 where
    none_spelt : (given : GivenTrees) → ResolvesSpelt d scope given [] tree.no_arg
    one_spelt : (given : GivenTrees) (name : List ℕ) (names : List (List ℕ)) (i : ℕ) (g : GivenValue) (e : NamedExprTree) (others : NamedArgTrees) → IsTheOne (IsGivenUnder d name) (given_values given) i g
        → ResolvesExpr d scope g.value e → ResolvesSpelt d scope given names others → ResolvesSpelt d scope given (name ∷ names) (tree.more_args e others)

  -- a struct's name is its number, and a type of the language is what its name after `base.` says
  pub data ResolvesType (d : Declared) (scope : Scope) : TypeTree → NamedTypeTree → Type 0 where
    a_slice_type : (at : Place) (element : TypeTree) (t : NamedTypeTree) → ResolvesType d scope element t → ResolvesType d scope (parsed.slice_of at element) (tree.slice_of at t)
    an_array_type : (length : ExprTree) (e : NamedExprTree) (at : Place) (element : TypeTree) (t : NamedTypeTree) → ResolvesExpr d scope length e → ResolvesType d scope element t
        → ResolvesType d scope (parsed.array_of length at element) (tree.array_of e at t)
    a_base_type : (name : Name) (at : Place) (bounds : BoundsTree) (b : NamedBoundsTree) → ResolvesBounds d scope bounds b
        → ResolvesType d scope (parsed.base_type name at bounds) (tree.base_type (base_type_named (text_of d name.text.0)) at b)
    a_status_type : (at : Place) (bounds : BoundsTree) (b : NamedBoundsTree) → ResolvesBounds d scope bounds b
        → ResolvesType d scope (parsed.status_type at bounds) (tree.base_type (Some bases.Status) at b)
    a_struct : (name : Name) (n : ℕ) → StructMeans d name.text.0 n → ResolvesType d scope (parsed.struct_type name) (tree.struct_type n name.at)

  pub data ResolvesBounds (d : Declared) (scope : Scope) : BoundsTree → NamedBoundsTree → Type 0 where
    no_bounds : ResolvesBounds d scope parsed.unrefined tree.unrefined
    two_bounds : (low : PartTree) (p : NamedPartTree) (high : ExprTree) (e : NamedExprTree) → ResolvesPart d scope low p → ResolvesExpr d scope high e
        → ResolvesBounds d scope (parsed.refined low high) (tree.refined p e)
