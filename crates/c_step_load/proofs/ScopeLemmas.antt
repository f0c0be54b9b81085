-- The scope of a function, and the names of its text.
use Rattle.std.proofs.Common.{◌≡◌, ℕ, Bool, true, false, not, List, [], ◌∷◌, ◌++◌, length, map, is_none, option_map, refl, sym, ap, ◌∙◌, subst, append_assoc}
use Rattle.std.specs.Prelude.{◌&&◌, if◌then◌else◌, reverse}
use Rattle.std.proofs.lemmas.List.{map-append, length-map}
use Rattle.c_text.specs.declared.nodes.CType.{CType}
use Rattle.c_text.specs.CTree.{ParamTree, LocalTree, Code}
use Rattle.c_text.specs.CNodes.{Nodes, type_in, param_tree, local_tree, expr_of, code_of, unit_tree}
use Rattle.c_text.specs.CFits.{HasParams, HasLocals}
use Rattle.c_meaning.specs.CTypes.{Function, local_name, functions_of, structs_of, texts_of, names_of}
use Rattle.c_meaning.specs.CStep.{by_name}
use Rattle.c_meaning.specs.UnitForm.{is_among, all_distinct}
use Rattle.c_form_exprs.specs.Front.{Front, Within, scope_in, entry_param}
use Rattle.c_form_exprs.specs.Tables.{named}
use Rattle.c_form_stmts.specs.declared.functions.Parts.{Parts}
use Rattle.c_form_stmts.specs.Names.{are_new}
use Rattle.c_form_stmts.proofs.NameLemmas.{named_among, entry_names, new_from_none, new_append}
use Rattle.c_step_exprs.specs.Resolving.{function_number}
use Rattle.c_step_text.specs.Layout.{seek}
use Rattle.c_step_places.specs.Weights.{WeighsAll}
use Rattle.c_step_load_exprs.specs.Knowing.{AreAlike}
use Rattle.c_step_load_stmts.specs.declared.bodies.Body.{Body}
use Rattle.c_step_load_stmts.specs.Bodies.{nodes_of, Fits, Tells, below}
use Rattle.c_step_program.specs.Programs.{AreApart}
use Rattle.c_step_load.specs.declared.functions.Known.{Known}
use Rattle.c_step_load.specs.Loading.{program_in, nodes_in, own_names, function_by, IsKnown, IsFunction, names_by}
use Rattle.c_step_load.proofs.NameLaws.{items_alike, items_apart, callable_below}

abbrev pub names_at : List ParamTree → List (List ℕ)
names_at ps = map (λ (it : ParamTree). it.name) ps

-- A name that is new is declared.
denied : (b : Bool) → b ≡ false → not b ≡ true
denied false e = refl
denied true e = absurd (cc (e))

pub declared_new : (w new : Within) (name : List ℕ) (kind : CType) (fresh : Bool) → is_among (names_at (scope_in w).names) name ≡ false → fresh ≡ is_none (named w.names name) → new ≡ (if fresh then record w { names = w.names ++ (name, kind) ∷ [] } else w) → new ≡ record w { names = w.names ++ (name, kind) ∷ [] }
declared_new w new name kind fresh none is added =
    let among : is_among (map (λ e. e.0) w.names) name ≡ false = subst (λ (ns : List (List ℕ)). is_among ns name ≡ false) (entry_names w.front.nodes.names w.names) none in
    let yes : fresh ≡ true = is ∙ (named_among w.names name ∙ denied (is_among (map (λ e. e.0) w.names) name) among) in
    added ∙ ap (λ (b : Bool). if b then record w { names = w.names ++ (name, kind) ∷ [] } else w) yes

pub declared_front : (w new : Within) (name : List ℕ) (kind : CType) → new ≡ record w { names = w.names ++ (name, kind) ∷ [] } → new.front ≡ w.front
declared_front w new name kind e = ap (λ (x : Within). x.front) e

pub declared_names : (w new : Within) (name : List ℕ) (kind : CType) → new ≡ record w { names = w.names ++ (name, kind) ∷ [] } → (scope_in new).names ≡ (scope_in w).names ++ record { kind = type_in w.front.nodes.names kind; name = name } ∷ []
declared_names w new name kind e = ap (λ (x : Within). (scope_in x).names) e ∙ map-append (entry_param w.front.nodes.names) w.names ((name, kind) ∷ [])

-- Both parameters and locals have new names, where all differ.
both_left : (a b : Bool) → (a && b) ≡ true → a ≡ true
both_left true b e = refl
both_left false b e = absurd (cc (e))

both_right : (a b : Bool) → (a && b) ≡ true → b ≡ true
both_right true b e = e
both_right false b e = absurd (cc (e))

both_new : (ps ls : List ParamTree) → all_distinct (names_at (ps ++ ls)) ≡ true → (are_new [] (names_at ps) && are_new (names_at ps) (names_at ls)) ≡ true
both_new ps ls h =
    sym (new_append [] (names_at ps) (names_at ls)) ∙ (new_from_none (names_at ps ++ names_at ls) ∙ (ap all_distinct (sym (map-append (λ (it : ParamTree). it.name) ps ls)) ∙ h))

pub params_new : (ps ls : List ParamTree) → all_distinct (names_at (ps ++ ls)) ≡ true → are_new [] (names_at ps) ≡ true
params_new ps ls h = both_left (are_new [] (names_at ps)) (are_new (names_at ps) (names_at ls)) (both_new ps ls h)

pub locals_new : (ps ls : List ParamTree) → all_distinct (names_at (ps ++ ls)) ≡ true → are_new (names_at ps) (names_at ls) ≡ true
locals_new ps ls h = both_right (are_new [] (names_at ps)) (are_new (names_at ps) (names_at ls)) (both_new ps ls h)

-- What a body of the unit is put down by.
module _ (known : Known) (k : IsKnown known) (b : Body) where
  pub nodes_same : b.names.scope.now.front ≡ known.front.now → nodes_of b ≡ nodes_in known
  nodes_same front = ap (λ (f : Front). f.nodes) (front ∙ k.front)

  pub fits : (front : b.names.scope.now.front ≡ known.front.now) → b.names.numbers.now ≡ known.numbers.now → b.weighed.unit.now ≡ nodes_in known → b.weighed.weights.now ≡ known.weighed.weights.now → Fits b
  fits front numbers unit weights =
      let same : nodes_of b ≡ nodes_in known = nodes_same front in
      record {
        knows = record {
          same = numbers ∙ (k.numbers ∙ sym same);
          all = ap (λ (f : Front). f.count) (front ∙ k.front) ∙ ap (λ (n : Nodes). length n.items) (sym same);
          alike = subst (λ (n : Nodes). AreAlike (unit_tree n)) (sym same) (items_alike k.formed.0 (unit_tree (nodes_in known)) k.formed.1);
        };
        same = unit ∙ sym same;
        weighs = subst (λ (n : Nodes). WeighsAll n b.weighed.weights.now) (sym unit) (subst (λ (ws : List ℕ). WeighsAll (nodes_in known) ws) (sym weights) k.weighs);
      }

  pub tells : (parts : Parts) (f : Function) (others callable : List Function) (start : ℕ) → b.names.scope.now.front ≡ known.front.now → (scope_in b.names.scope.now).names ≡ own_names known.front.now.nodes parts
      → b.number ≡ length callable → b.result ≡ parts.result_type → ((name : List ℕ) → named b.labels.now name ≡ seek (by_name name) start (code_of (nodes_in known) parts.body.0))
      → IsFunction (nodes_in known) parts f others callable → Tells b (names_by (nodes_in known) f callable start)
  tells parts f others callable start front names count result labels it =
      let same : nodes_of b ≡ nodes_in known = nodes_same front in
      let own : names_of f ≡ (scope_in b.names.scope.now).names = ap names_of it.is ∙ (ap (λ (g : Front). own_names g.nodes parts) (sym k.front) ∙ sym names) in
      record {
        scope =
            ap (λ (ns : List ParamTree). record { structs = (program_in (nodes_in known)).structs; texts = (program_in (nodes_in known)).texts; functions = (program_in (nodes_in known)).functions; names = ns }) own
            ∙ ap (λ (n : Nodes). record { structs = reverse (structs_of (unit_tree n)); texts = texts_of (unit_tree n); functions = reverse (functions_of (unit_tree n)); names = (scope_in b.names.scope.now).names }) (sym same);
        labels = λ name. labels name ∙ ap (λ (g : Function). seek (by_name name) start g.body) (sym it.is);
        result_type = ap (option_map (type_in (nodes_of b).names)) result ∙ (ap (λ (n : Nodes). option_map (type_in n.names) parts.result_type) same ∙ ap (λ (g : Function). g.result_type) (sym it.is));
        callable = λ name.
            ap (λ (n : Nodes). below b.number (function_number (reverse (functions_of (unit_tree n))) name)) same
            ∙ (ap (λ (m : ℕ). below m (function_number (program_in (nodes_in known)).functions name)) count
            ∙ calls name);
      }
    where
      calls : (name : List ℕ) → below (length callable) (function_number (program_in (nodes_in known)).functions name) ≡ function_number callable name
      calls name =
          let is : (program_in (nodes_in known)).functions ≡ (others ++ f ∷ []) ++ callable = it.among ∙ sym (append_assoc others (f ∷ []) callable) in
          ap (λ (fs : List Function). below (length callable) (function_number fs name)) is
          ∙ callable_below (others ++ f ∷ []) callable name (subst (λ (fs : List Function). AreApart fs) is (items_apart k.formed.0 (unit_tree (nodes_in known)) k.formed.1))

-- What holds of a function's body and locals, by its parts.
pub by_parts : (P : Code → List LocalTree → Type 0) (here nodes : Nodes) (parts : Parts) (f : Function) → here ≡ nodes → f ≡ function_by nodes parts f.name → P (code_of here parts.body.0) (map (local_tree here.names (expr_of here)) parts.locals.now) → P f.body f.locals
by_parts P here nodes parts f same is h =
    subst (λ (g : Function). P g.body g.locals) (sym is) (subst (λ (n : Nodes). P (code_of n parts.body.0) (map (local_tree n.names (expr_of n)) parts.locals.now)) same h)

pub as_many_params : (nodes : Nodes) (parts : Parts) (f : Function) → f ≡ function_by nodes parts f.name → length parts.params.now ≡ length f.params
as_many_params nodes parts f is = sym (ap (λ (g : Function). length g.params) is ∙ length-map parts.params.now (param_tree nodes.names))

-- The scope of a function, from no names on: with the parameters, and then with the locals.
module _ (front : Front) (parts : Parts) (none with_params with_all : Within) (begins : none ≡ record { front = front; names = [] }) where
  pub params_here : HasParams front.nodes parts.params.now → HasParams none.front.nodes parts.params.now
  params_here h = subst (λ (w : Within). HasParams w.front.nodes parts.params.now) (sym begins) h

  pub params_fresh : all_distinct (names_at (own_names front.nodes parts)) ≡ true → are_new (names_at (scope_in none).names) (names_at (map (param_tree none.front.nodes.names) parts.params.now)) ≡ true
  params_fresh own =
      subst (λ (w : Within). are_new (names_at (scope_in w).names) (names_at (map (param_tree w.front.nodes.names) parts.params.now)) ≡ true) (sym begins)
      (params_new (map (param_tree front.nodes.names) parts.params.now) (map local_name (map (local_tree front.nodes.names (expr_of front.nodes)) parts.locals.now)) own)

  module _ (same : with_params.front ≡ none.front) (added : (scope_in with_params).names ≡ (scope_in none).names ++ map (param_tree none.front.nodes.names) parts.params.now) where
    front_here : with_params.front ≡ front
    front_here = same ∙ ap (λ (w : Within). w.front) begins

    names_here : (scope_in with_params).names ≡ map (param_tree front.nodes.names) parts.params.now
    names_here = added ∙ ap (λ (w : Within). (scope_in w).names ++ map (param_tree w.front.nodes.names) parts.params.now) begins

    pub locals_here : HasLocals front.nodes parts.locals.now → HasLocals with_params.front.nodes parts.locals.now
    locals_here h = subst (λ (f : Front). HasLocals f.nodes parts.locals.now) (sym front_here) h

    pub locals_fresh : all_distinct (names_at (own_names front.nodes parts)) ≡ true → are_new (names_at (scope_in with_params).names) (names_at (map local_name (map (local_tree with_params.front.nodes.names (expr_of with_params.front.nodes)) parts.locals.now))) ≡ true
    locals_fresh own =
        subst (λ (f : Front). are_new (names_at (scope_in with_params).names) (names_at (map local_name (map (local_tree f.nodes.names (expr_of f.nodes)) parts.locals.now))) ≡ true) (sym front_here)
        (subst (λ (ps : List ParamTree). are_new (names_at ps) (names_at (map local_name (map (local_tree front.nodes.names (expr_of front.nodes)) parts.locals.now))) ≡ true) (sym names_here)
        (locals_new (map (param_tree front.nodes.names) parts.params.now) (map local_name (map (local_tree front.nodes.names (expr_of front.nodes)) parts.locals.now)) own))

    pub front_kept : with_all.front ≡ with_params.front → with_all.front ≡ front
    front_kept kept = kept ∙ front_here

    pub names_all : (scope_in with_all).names ≡ (scope_in with_params).names ++ map local_name (map (local_tree with_params.front.nodes.names (expr_of with_params.front.nodes)) parts.locals.now) → (scope_in with_all).names ≡ own_names front.nodes parts
    names_all more =
        more
        ∙ (ap (λ (ps : List ParamTree). ps ++ map local_name (map (local_tree with_params.front.nodes.names (expr_of with_params.front.nodes)) parts.locals.now)) names_here
        ∙ ap (λ (f : Front). map (param_tree front.nodes.names) parts.params.now ++ map local_name (map (local_tree f.nodes.names (expr_of f.nodes)) parts.locals.now)) front_here)
