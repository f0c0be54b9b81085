-- What is compared is the chain itself, but a complement of two operands.
use Rattle.std.proofs.Common.{◌≡◌, ℕ, ◌<◌, Bool, true, false, List, [], ◌∷◌, Option, Some, None, if◌then◌else◌, length, map, get_or, refl, sym, ap, ◌∙◌, subst, arith}
use Rattle.wf_text.specs.declared.place.Place.{Place}
use Rattle.wf_ast.specs.declared.numbers.ExprId.{ExprId}
use Rattle.wf_ast.specs.declared.types.Ty.{Ty}
use Rattle.wf_ast.specs.declared.typed_nodes.TypedNodes.{TypedNodes}
use Rattle.wf_ast.specs.TypedTree.{Arith, minus, bits_xor, mod_minus, NumTree, link, ValueTree}
use Rattle.wf_ast.specs.TypedTrees.{OperatorKind, arithmetic, ordering, joining, num_in, num_type, num_chain, chain_of, tree_of}
use Rattle.wf_ast.specs.OperatorForms.{is_arithmetic}
use Rattle.wf_exprs.specs.Names.{Names}
use Rattle.wf_exprs.specs.Exprs.{Rated, apart, compared_as, is_ones, lowered, pair_compared, xor_operand}
use Rattle.wf_exprs_nodes.specs.Trees.{complement_by, is_xor}

-- A chain of two operands.
pub two_operands : (nodes : TypedNodes) (at : Place) (signs : List Place) (ty : Ty) (sort : OperatorKind) (es : List ExprId) (d : ExprId) → length es ≡ 2
    → chain_of at signs ty sort (map (tree_of nodes) es) ≡ chain_of at signs ty sort (tree_of nodes (get_or es 0 d) ∷ tree_of nodes (get_or es 1 d) ∷ [])
two_operands nodes at signs ty sort [] d l = absurd (omega (arith, l))
two_operands nodes at signs ty sort (a ∷ []) d l = absurd (omega (arith, l))
two_operands nodes at signs ty sort (a ∷ b ∷ []) d l = refl
two_operands nodes at signs ty sort (a ∷ b ∷ e ∷ es) d l = absurd (omega (arith, l))

module _ (names : Names) where
  -- With more operands it is the chain.
  on_from : (at sign : Place) (op : Arith) (bits : ℕ) (a b : NumTree) (ts : List ValueTree) (signs : List Place)
      → lowered names (num_chain at op bits true (link at sign op bits true a b) ts signs) ≡ compared_as names (num_chain at op bits true (link at sign op bits true a b) ts signs)
  on_from at sign op bits a b [] signs = refl
  on_from at sign op bits a b (t ∷ ts) [] = on_from at at op bits (link at sign op bits true a b) (num_in t) ts []
  on_from at sign op bits a b (t ∷ ts) (next ∷ signs) = on_from at next op bits (link at sign op bits true a b) (num_in t) ts signs

  three : (at sign : Place) (op : Arith) (bits : ℕ) (a b : NumTree) (t : ValueTree) (ts : List ValueTree) (signs : List Place)
      → lowered names (num_chain at op bits true (link at sign op bits false a b) (t ∷ ts) signs) ≡ compared_as names (num_chain at op bits true (link at sign op bits false a b) (t ∷ ts) signs)
  three at sign op bits a b t ts [] = on_from at at op bits (link at sign op bits false a b) (num_in t) ts []
  three at sign op bits a b t ts (next ∷ signs) = on_from at next op bits (link at sign op bits false a b) (num_in t) ts signs

  pub many_compared : (nodes : TypedNodes) (at : Place) (signs : List Place) (ty : Ty) (sort : OperatorKind) (es : List ExprId) → is_arithmetic sort ≡ true → 2 < length es
      → lowered names (num_in (chain_of at signs ty sort (map (tree_of nodes) es))) ≡ compared_as names (num_in (chain_of at signs ty sort (map (tree_of nodes) es)))
  many_compared nodes at signs ty (arithmetic op) [] h l = absurd (omega (arith, l))
  many_compared nodes at signs ty (arithmetic op) (a ∷ []) h l = absurd (omega (arith, l))
  many_compared nodes at signs ty (arithmetic op) (a ∷ b ∷ []) h l = absurd (omega (arith, l))
  many_compared nodes at [] ty (arithmetic op) (a ∷ b ∷ e ∷ es) h l = three at at op _ (num_in (tree_of nodes a)) (num_in (tree_of nodes b)) (tree_of nodes e) (map (tree_of nodes) es) []
  many_compared nodes at (sign ∷ signs) ty (arithmetic op) (a ∷ b ∷ e ∷ es) h l = three at sign op _ (num_in (tree_of nodes a)) (num_in (tree_of nodes b)) (tree_of nodes e) (map (tree_of nodes) es) signs
  many_compared nodes at signs ty (ordering op) es h l = absurd (cc h)
  many_compared nodes at signs ty (joining both) es h l = absurd (cc h)

  -- Two operands, by what they are.
  abbrev of_left : (bits : ℕ) → NumTree → NumTree → Rated
  of_left bits a b = apart minus bits (lowered names b) (lowered names a)

  abbrev of_right : (bits : ℕ) → NumTree → NumTree → Rated
  of_right bits a b = apart minus bits (lowered names a) (lowered names b)

  abbrev of_xor : (bits : ℕ) → NumTree → NumTree → Rated
  of_xor bits a b = apart bits_xor bits (xor_operand bits a (lowered names a) b) (xor_operand bits b (lowered names b) a)

  abbrev xor_by : (other one : Bool) (bits : ℕ) → NumTree → NumTree → Rated
  xor_by other one bits a b = if other then of_left bits a b else if one then of_right bits a b else of_xor bits a b

  abbrev difference_by : (one : Bool) (bits : ℕ) → NumTree → NumTree → Rated
  difference_by one bits a b = if one then of_right bits a b else apart mod_minus bits (lowered names a) (lowered names b)

  left_by : (op : Arith) (bits : ℕ) (a b : NumTree) → complement_by (arithmetic op) (is_ones bits a) (is_ones bits b) ≡ Some true → pair_compared names op bits a b ≡ of_left bits a b
  left_by bits_xor bits a b h = by (is_ones bits a) (is_ones bits b) h
    where
      by : (one other : Bool) → complement_by (arithmetic bits_xor) one other ≡ Some true → xor_by other one bits a b ≡ of_left bits a b
      by one true h = refl
      by true false h = absurd (cc h)
      by false false h = absurd (cc h)
  left_by mod_minus bits a b h = by (is_ones bits a) h
    where
      by : (one : Bool) → complement_by (arithmetic mod_minus) one (is_ones bits b) ≡ Some true → difference_by one bits a b ≡ of_left bits a b
      by true h = absurd (cc h)
      by false h = absurd (cc h)
  left_by op bits a b h = absurd (cc h)

  right_by : (op : Arith) (bits : ℕ) (a b : NumTree) → complement_by (arithmetic op) (is_ones bits a) (is_ones bits b) ≡ Some false → pair_compared names op bits a b ≡ of_right bits a b
  right_by bits_xor bits a b h = by (is_ones bits a) (is_ones bits b) h
    where
      by : (one other : Bool) → complement_by (arithmetic bits_xor) one other ≡ Some false → xor_by other one bits a b ≡ of_right bits a b
      by one true h = absurd (cc h)
      by true false h = refl
      by false false h = absurd (cc h)
  right_by mod_minus bits a b h = by (is_ones bits a) h
    where
      by : (one : Bool) → complement_by (arithmetic mod_minus) one (is_ones bits b) ≡ Some false → difference_by one bits a b ≡ of_right bits a b
      by true h = refl
      by false h = absurd (cc h)
  right_by op bits a b h = absurd (cc h)

  other_xor : (op : Arith) (bits : ℕ) (a b : NumTree) → complement_by (arithmetic op) (is_ones bits a) (is_ones bits b) ≡ None → is_xor (arithmetic op) ≡ true → pair_compared names op bits a b ≡ of_xor bits a b
  other_xor bits_xor bits a b h x = by (is_ones bits a) (is_ones bits b) h
    where
      by : (one other : Bool) → complement_by (arithmetic bits_xor) one other ≡ None → xor_by other one bits a b ≡ of_xor bits a b
      by one true h = absurd (cc h)
      by true false h = absurd (cc h)
      by false false h = refl
  other_xor op bits a b h x = absurd (cc x)

  no_xor : (op : Arith) (bits : ℕ) (a b : NumTree) → complement_by (arithmetic op) (is_ones bits a) (is_ones bits b) ≡ None → is_xor (arithmetic op) ≡ false
      → pair_compared names op bits a b ≡ apart op bits (lowered names a) (lowered names b)
  no_xor bits_xor bits a b h x = absurd (cc x)
  no_xor mod_minus bits a b h x = by (is_ones bits a) h
    where
      by : (one : Bool) → complement_by (arithmetic mod_minus) one (is_ones bits b) ≡ None → difference_by one bits a b ≡ apart mod_minus bits (lowered names a) (lowered names b)
      by true h = absurd (cc h)
      by false h = refl
  no_xor op bits a b h x = refl

  -- The chain of two operands is compared as they are.
  pair_is : (at : Place) (signs : List Place) (ty : Ty) (op : Arith) (a b : ValueTree) → pair_compared names op (num_type ty).bits (num_in a) (num_in b) ≡ compared_as names (num_in (chain_of at signs ty (arithmetic op) (a ∷ b ∷ [])))
  pair_is at [] ty op a b = refl
  pair_is at (sign ∷ signs) ty op a b = refl

  pair_is_link : (at : Place) (signs : List Place) (ty : Ty) (op : Arith) (a b : ValueTree) → lowered names (num_in (chain_of at signs ty (arithmetic op) (a ∷ b ∷ []))) ≡ apart op (num_type ty).bits (lowered names (num_in a)) (lowered names (num_in b))
  pair_is_link at [] ty op a b = refl
  pair_is_link at (sign ∷ signs) ty op a b = refl

  -- By what is known of the width and of the operands.
  told : (sort : OperatorKind) (bits own : ℕ) (a b : NumTree) (one other : Bool) (it : Option Bool) → bits ≡ own → one ≡ is_ones bits a → other ≡ is_ones bits b → complement_by sort one other ≡ it
      → complement_by sort (is_ones own a) (is_ones own b) ≡ it
  told sort bits own a b one other it w i k c =
      let P : ℕ → Type 0 = λ x. complement_by sort (is_ones x a) (is_ones x b) ≡ it in
      subst P w (ap (λ x. complement_by sort x (is_ones bits b)) (sym i) ∙ ap (complement_by sort one) (sym k) ∙ c)

  pub left_complement : (at : Place) (signs : List Place) (ty : Ty) (sort : OperatorKind) (a b : ValueTree) (bits : ℕ) (one other : Bool) → is_arithmetic sort ≡ true → bits ≡ (num_type ty).bits
      → one ≡ is_ones bits (num_in a) → other ≡ is_ones bits (num_in b) → complement_by sort one other ≡ Some true → of_left bits (num_in a) (num_in b) ≡ compared_as names (num_in (chain_of at signs ty sort (a ∷ b ∷ [])))
  left_complement at signs ty (arithmetic op) a b bits one other h w i k c =
      let own = (num_type ty).bits in
      ap (λ x. of_left x (num_in a) (num_in b)) w ∙ sym (left_by op own (num_in a) (num_in b) (told (arithmetic op) bits own (num_in a) (num_in b) one other (Some true) w i k c)) ∙ pair_is at signs ty op a b
  left_complement at signs ty (ordering op) a b bits one other h w i k c = absurd (cc h)
  left_complement at signs ty (joining both) a b bits one other h w i k c = absurd (cc h)

  pub right_complement : (at : Place) (signs : List Place) (ty : Ty) (sort : OperatorKind) (a b : ValueTree) (bits : ℕ) (one other : Bool) → is_arithmetic sort ≡ true → bits ≡ (num_type ty).bits
      → one ≡ is_ones bits (num_in a) → other ≡ is_ones bits (num_in b) → complement_by sort one other ≡ Some false → of_right bits (num_in a) (num_in b) ≡ compared_as names (num_in (chain_of at signs ty sort (a ∷ b ∷ [])))
  right_complement at signs ty (arithmetic op) a b bits one other h w i k c =
      let own = (num_type ty).bits in
      ap (λ x. of_right x (num_in a) (num_in b)) w ∙ sym (right_by op own (num_in a) (num_in b) (told (arithmetic op) bits own (num_in a) (num_in b) one other (Some false) w i k c)) ∙ pair_is at signs ty op a b
  right_complement at signs ty (ordering op) a b bits one other h w i k c = absurd (cc h)
  right_complement at signs ty (joining both) a b bits one other h w i k c = absurd (cc h)

  pub xor_compared : (at : Place) (signs : List Place) (ty : Ty) (sort : OperatorKind) (a b : ValueTree) (bits : ℕ) (one other : Bool) → is_arithmetic sort ≡ true → bits ≡ (num_type ty).bits
      → one ≡ is_ones bits (num_in a) → other ≡ is_ones bits (num_in b) → complement_by sort one other ≡ None → is_xor sort ≡ true → of_xor bits (num_in a) (num_in b) ≡ compared_as names (num_in (chain_of at signs ty sort (a ∷ b ∷ [])))
  xor_compared at signs ty (arithmetic op) a b bits one other h w i k c x =
      let own = (num_type ty).bits in
      ap (λ x. of_xor x (num_in a) (num_in b)) w ∙ sym (other_xor op own (num_in a) (num_in b) (told (arithmetic op) bits own (num_in a) (num_in b) one other None w i k c) x) ∙ pair_is at signs ty op a b
  xor_compared at signs ty (ordering op) a b bits one other h w i k c x = absurd (cc h)
  xor_compared at signs ty (joining both) a b bits one other h w i k c x = absurd (cc h)

  pub pair_as_is : (at : Place) (signs : List Place) (ty : Ty) (sort : OperatorKind) (a b : ValueTree) (bits : ℕ) (one other : Bool) → is_arithmetic sort ≡ true → bits ≡ (num_type ty).bits
      → one ≡ is_ones bits (num_in a) → other ≡ is_ones bits (num_in b) → complement_by sort one other ≡ None → is_xor sort ≡ false
      → lowered names (num_in (chain_of at signs ty sort (a ∷ b ∷ []))) ≡ compared_as names (num_in (chain_of at signs ty sort (a ∷ b ∷ [])))
  pair_as_is at signs ty (arithmetic op) a b bits one other h w i k c x =
      let own = (num_type ty).bits in
      pair_is_link at signs ty op a b ∙ sym (no_xor op own (num_in a) (num_in b) (told (arithmetic op) bits own (num_in a) (num_in b) one other None w i k c) x) ∙ pair_is at signs ty op a b
  pair_as_is at signs ty (ordering op) a b bits one other h w i k c x = absurd (cc h)
  pair_as_is at signs ty (joining both) a b bits one other h w i k c x = absurd (cc h)
