-- The resolved tree of a whole package.
use Rattle.std.specs.Prelude.{ℕ, Bool, List, [], ◌∷◌, ◌++◌, map, Option, Some, None}
use Rattle.wf_ast.specs.declared.parsed.Name.{Name}
use Rattle.wf_ast.specs.declared.parsed.WrittenMark.{WrittenMark}
use Rattle.wf_ast.specs.ParsedTree as parsed
use Rattle.wf_ast.specs.ParsedTree.{ExprTree, TypeTree, ResultTree, DeclTree}
use Rattle.wf_named.specs.NamedTree.{NamedTypeTree, VarTree, ConstTree, NamedStructTree, NamedMethodTree, NamedPackageTree}
use Rattle.wf_names_rules.specs.Declarations.{Variable, Constant, Structure, Method, Declared, declared, variables, locals_of, as_variable, text_of}
use Rattle.wf_names_rules.specs.Uses.{constant_scope, struct_scope, method_scope}
use Rattle.wf_names_resolve.specs.Standing.{Standing, standing_at}
use Rattle.wf_names_resolve.specs.Resolved.{number_or, word_of, resolved_word, resolved_mark, resolved_expr, resolved_type, resolved_block}

abbrev pub resolved_variable : Standing → Variable → VarTree
resolved_variable k v = record { name = resolved_word k v.name; of = resolved_type k v.of }

abbrev pub resolved_const : Standing → Name → TypeTree → ExprTree → ConstTree
resolved_const k name of value = record { name = resolved_word k name; of = resolved_type k of; value = resolved_expr k value }

abbrev pub resolved_struct : Standing → Bool → Name → List Variable → NamedStructTree
resolved_struct k public name fields = record { name = resolved_word k name; public = public; fields = map (resolved_variable k) fields }

abbrev pub resolved_result : Standing → ResultTree → Option NamedTypeTree
resolved_result k parsed.gives_nothing = None
resolved_result k (parsed.gives of) = Some (resolved_type k of)

-- A method belongs to the struct that its declaration names.
abbrev pub resolved_method : Standing → WrittenMark → Method → NamedMethodTree
resolved_method k mark m = record {
  name = resolved_word k m.name;
  of = number_or (k.structure m.owner.text.0);
  public = m.public;
  mark = resolved_mark mark;
  args = map (resolved_variable k) m.args;
  locals = map (resolved_variable k) m.locals;
  gives = resolved_result k m.result;
  body = resolved_block k [] m.body;
}

-- A constant knows those before it, `known`; everything else knows all constants.
abbrev pub resolved_consts : Declared → (known : List Variable) → List Constant → List ConstTree
resolved_consts d known [] = []
resolved_consts d known (c ∷ cs) = resolved_const (standing_at d (constant_scope known)) c.name c.of c.value ∷ resolved_consts d (known ++ as_variable c ∷ []) cs

abbrev pub struct_in : Declared → Bool → Structure → NamedStructTree
struct_in d public s = resolved_struct (standing_at d (struct_scope d s)) public s.name s.fields

abbrev pub resolved_structs : Declared → List DeclTree → List NamedStructTree
resolved_structs d [] = []
resolved_structs d (parsed.structure public name mark fields at ∷ decls) = struct_in d public (record { name = name; fields = variables fields }) ∷ resolved_structs d decls
resolved_structs d (_ ∷ decls) = resolved_structs d decls

abbrev pub method_in : Declared → WrittenMark → Method → NamedMethodTree
method_in d mark m = resolved_method (standing_at d (method_scope d m)) mark m

abbrev pub resolved_methods : Declared → List DeclTree → List NamedMethodTree
resolved_methods d [] = []
resolved_methods d (parsed.method public owner name mark args result body at ∷ decls) =
    method_in d mark (record { public = public; owner = owner; name = name; args = variables args; result = result; locals = locals_of body; body = body })
    ∷ resolved_methods d decls
resolved_methods d (_ ∷ decls) = resolved_methods d decls

abbrev pub resolved_by : Declared → (name : List ℕ) → List DeclTree → (order struct_order : List ℕ) → NamedPackageTree
resolved_by d name decls order struct_order = record {
  package_name = name;
  consts = resolved_consts d [] d.constants;
  statuses = map (word_of (text_of d)) d.statuses;
  structs = resolved_structs d decls;
  methods = resolved_methods d decls;
  order = order;
  struct_order = struct_order;
}

-- The package of this name with these texts and declarations; `order` has the numbers of all methods, each after those
-- that it calls, and `struct_order` those of all structs, each after those that its fields hold.
abbrev pub resolved_package : (name : List ℕ) → (texts : List (List ℕ)) → List DeclTree → (order struct_order : List ℕ) → NamedPackageTree
resolved_package name texts decls order struct_order = resolved_by (declared texts decls) name decls order struct_order
