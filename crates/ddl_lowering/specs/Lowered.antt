-- The core of a specialised form. A value form gives one parse, where it stands.
use Rattle.std.specs.Prelude.{ℕ, true, false, if◌then◌else◌, List, [], ◌∷◌, ◌++◌, None}
use Rattle.ddl_base.specs.declared.span.Span.{Span}
use Rattle.ddl_types.specs.Types.{Ty}
use Rattle.ddl_types.specs.Layout.{Layout}
use Rattle.ddl_ops.specs.declared.operators.Infix.TheVariants.{And, Or}
use Rattle.ddl_ops.specs.declared.pattern.Pattern.{Pattern}
use Rattle.ddl_ops.specs.Patterns.{name_of}
use Rattle.ddl_ops.specs.Numbers.{number_type}
use Rattle.ddl_ops.specs.Casts.{target}
use Rattle.ddl_typed.specs.Tree.{own, Class, those, Expr, Form, Exprs, Named, Content, Cases, Bounds, Alts, Args, Items, Item, expr, local, literal, truth}
use Rattle.ddl_typed.specs.Tree.{nothing_, just_, list, record_, union_, select, infix_, prefix_, cast, builtin, value_call, paren, if_, for_, map_, pure}
use Rattle.ddl_typed.specs.Tree.{uint8, end, class, primitive, is_, fits, block, first, choose, many, optional, no_exprs, more, no_named, named, no_content}
use Rattle.ddl_typed.specs.Tree.{content, no_cases, unbounded, exactly, from_, up_to, between, no_alts, alt, tag, no_args, by_value, by_grammar, by_class}
use Rattle.ddl_typed.specs.Tree.{by_type, by_hand, no_items, item, plain, let_, field, result_}
use Rattle.ddl_typed.specs.Tree as tree
use Rattle.ddl_mono.specs.Copies.{Scope}
use Rattle.ddl_core.specs.Core.{Operation, give, perform, bind, both, attempt, call, case_, loop, none_left, when}
use Rattle.ddl_core.specs.Core as c
use Rattle.ddl_lowering.specs.Scopes.{index, has_name, shifted, named_at}
use Rattle.ddl_lowering.specs.PartTypes.{type_of, union_type, count_type, array_type}
use Rattle.ddl_lowering.specs.Choices.{wrong, by_truth, choice}
use Rattle.ddl_lowering.specs.Loops.{for_scope, for_loop, map_scope, map_loop}
use Rattle.ddl_lowering.specs.Repetitions.{turns, around_scope, state_scope}
use Rattle.ddl_lowering.specs.Parts.{Seen, nothing_seen, after_item, item_name, block_form}

-- the type of the content of a value of a type that has a pattern is given
module _ (layouts : List Layout) (within : Pattern → Ty → Ty) where
  abbrev mutual
    -- a value form: the values of its parts in variables, from left to right, and then an operation on them
    pub valued : Expr → Scope → c.Form
    valued (expr form ty span) os = form_valued form ty span os

    pub form_valued : Form → Ty → Span → Scope → c.Form
    form_valued (tree.text bs) ty span os = perform (c.text bs) [] span
    form_valued (local x) ty span os = give (index os (own x))
    form_valued (literal n) ty span os = perform (c.literal n (number_type ty)) [] span
    form_valued (truth b) ty span os = perform (c.truth b) [] span
    form_valued nothing_ ty span os = perform c.nothing_ [] span
    form_valued (just_ e) ty span os = bind (type_of e) (valued e os) (perform c.just_ (0 ∷ []) span)
    form_valued (list es) ty span os = exprs_valued es c.list [] span os
    form_valued (record_ ns) ty span os = named_valued ns [] [] span os
    form_valued (union_ name d) ty span os =
        bind (union_type d) (content_valued d span os) (perform (c.union_ name) (0 ∷ []) span)
    form_valued (select e name) ty span os = bind (type_of e) (valued e os) (perform (c.select name) (0 ∷ []) span)
    form_valued (infix_ And a b) ty span os =
        bind (type_of a) (valued a os)
        (by_truth (bind (type_of b) (valued b (None ∷ None ∷ os)) (perform c.truth_of_ (0 ∷ []) span))
        (perform (c.truth false) [] span) span)
    form_valued (infix_ Or a b) ty span os =
        bind (type_of a) (valued a os)
        (by_truth (perform (c.truth true) [] span)
        (bind (type_of b) (valued b (None ∷ None ∷ os)) (perform c.truth_of_ (0 ∷ []) span)) span)
    form_valued (infix_ op a b) ty span os =
        bind (type_of a) (valued a os)
        (bind (type_of b) (valued b (None ∷ os)) (perform (c.infix_ op) (1 ∷ 0 ∷ []) span))
    form_valued (prefix_ op e) ty span os = bind (type_of e) (valued e os) (perform (c.prefix_ op) (0 ∷ []) span)
    form_valued (cast k e) ty span os =
        bind (type_of e) (valued e os) (perform (c.cast k (target layouts ty)) (0 ∷ []) span)
    form_valued (builtin b es) ty span os = exprs_valued es (c.builtin b) [] span os
    form_valued (value_call f args) ty span os = args_called args f [] span os
    form_valued (paren e) ty span os = valued e os
    form_valued (if_ e a b) ty span os =
        bind (type_of e) (valued e os) (by_truth (valued a (None ∷ None ∷ os)) (valued b (None ∷ None ∷ os)) span)
    form_valued (tree.case_ e cs) ty span os =
        bind (type_of e) (valued e os) (case_ 0 (cases_valued cs (type_of e) (None ∷ os)) (wrong span))
    form_valued (for_ x start names e body) ty span os =
        for_loop (type_of start) (valued start os) (type_of e) (valued e (None ∷ os)) ty
        (valued body (for_scope x names os)) span
    form_valued (map_ names e body) ty span os =
        map_loop (type_of e) (valued e os) (array_type (type_of body)) (type_of body) (valued body (map_scope names os))
        span
    form_valued form ty span os = wrong span

    -- the values of forms after those in variables, and then an operation on all
    pub exprs_valued : Exprs → Operation → List ℕ → Span → Scope → c.Form
    exprs_valued no_exprs op xs span os = perform op xs span
    exprs_valued (more e es) op xs span os =
        bind (type_of e) (valued e os) (exprs_valued es op (shifted xs ++ (0 ∷ [])) span (None ∷ os))

    -- the fields of a record after those in variables, and then the record
    pub named_valued : Named → List (List ℕ) → List ℕ → Span → Scope → c.Form
    named_valued no_named labels xs span os = perform (c.record_ labels) xs span
    named_valued (named name e ns) labels xs span os =
        bind (type_of e) (valued e os) (named_valued ns (labels ++ (name ∷ [])) (shifted xs ++ (0 ∷ [])) span
        (None ∷ os))

    -- the content of a union: none is `{}`
    pub content_valued : Content → Span → Scope → c.Form
    content_valued no_content span os = perform c.unit_ [] span
    content_valued (content e) span os = valued e os

    -- alternatives, each with the content as its variable 0
    pub cases_valued : Cases → Ty → Scope → c.Alternatives
    cases_valued no_cases subject os = none_left
    cases_valued (tree.when p e cs) subject os =
        when p (within p subject) (valued e (named_at (name_of p) ∷ os)) (cases_valued cs subject os)

    -- the values of arguments before those in variables, the last one first, and then the call; what is handed on is
    -- its variable
    pub args_called : Args → ℕ → List ℕ → Span → Scope → c.Form
    args_called no_args f xs span os = call f xs
    args_called (by_value x e args) f xs span os =
        bind (type_of e) (valued e os) (args_called args f (0 ∷ shifted xs) span (None ∷ os))
    args_called (by_hand there here args) f xs span os =
        if has_name os here then args_called args f (index os here ∷ xs) span os else wrong span
    args_called (by_grammar x site e args) f xs span os = wrong span
    args_called (by_class x k args) f xs span os = wrong span
    args_called (by_type x ty args) f xs span os = wrong span

  -- a class, which is a set of bytes
  abbrev pub class_performed : Class → Span → c.Form
  class_performed (those test) span = perform (c.class test) [] span
  class_performed k span = wrong span

  -- the match of a text alone is one operation
  abbrev pub match_lowered : Expr → Span → Scope → c.Form
  match_lowered (expr (tree.text bs) ty at) span os = perform (c.match_text bs) [] span
  match_lowered e span os = bind (type_of e) (valued e os) (perform c.match (0 ∷ []) span)

  -- a repetition: its bounds as counts, and the turns from the empty array on
  abbrev pub repeated : Bounds → Ty → c.Form → Span → Scope → c.Form
  repeated unbounded ty body span os = bind ty (perform c.list [] span) (loop (ty ∷ []) (0 ∷ []) body)
  repeated (exactly a) ty body span os =
      bind count_type (valued a os) (bind count_type (perform c.count_ (0 ∷ []) span)
      (bind ty (perform c.list [] span) (loop (ty ∷ count_type ∷ []) (0 ∷ 1 ∷ []) body)))
  repeated (from_ a) ty body span os =
      bind count_type (valued a os) (bind count_type (perform c.count_ (0 ∷ []) span)
      (bind ty (perform c.list [] span) (loop (ty ∷ count_type ∷ []) (0 ∷ 1 ∷ []) body)))
  repeated (up_to b) ty body span os =
      bind count_type (valued b os) (bind count_type (perform c.count_ (0 ∷ []) span)
      (bind ty (perform c.list [] span) (loop (ty ∷ count_type ∷ []) (0 ∷ 1 ∷ []) body)))
  -- as many are allowed as the greater bound says
  repeated (between a b) ty body span os =
      bind count_type (valued a os) (bind count_type (perform c.count_ (0 ∷ []) span)
      (bind count_type (valued b (None ∷ None ∷ os)) (bind count_type (perform c.count_ (0 ∷ []) span)
      (bind count_type (perform c.most (0 ∷ 2 ∷ []) span)
      (bind ty (perform c.list [] span) (loop (ty ∷ count_type ∷ count_type ∷ []) (0 ∷ 4 ∷ 1 ∷ []) body))))))

  abbrev mutual
    -- a grammar form
    pub lowered : Expr → Scope → c.Form
    lowered (expr form ty span) os = form_lowered form ty span os

    pub form_lowered : Form → Ty → Span → Scope → c.Form
    form_lowered (pure e) ty span os = valued e os
    form_lowered uint8 ty span os = perform c.uint8 [] span
    form_lowered (tree.match e) ty span os = match_lowered e span os
    form_lowered (tree.text bs) ty span os = perform (c.match_text bs) [] span
    form_lowered end ty span os = perform c.end [] span
    form_lowered (class k) ty span os = class_performed k span
    form_lowered (tree.fail n) ty span os = perform (c.fail n) [] span
    form_lowered (primitive p es) ty span os = exprs_valued es (c.primitive p) [] span os
    form_lowered (is_ e p) ty span os = bind (type_of e) (valued e os) (perform (c.guard p) (0 ∷ []) span)
    form_lowered (fits e) ty span os =
        bind (type_of e) (valued e os) (perform (c.fits (target layouts ty)) (0 ∷ []) span)
    form_lowered (paren e) ty span os = lowered e os
    form_lowered (block is) ty span os = items_lowered is nothing_seen span os
    form_lowered (first as_) ty span os = first_lowered as_ span os
    form_lowered (choose as_) ty span os = choose_lowered as_ span os
    form_lowered (many k b p) ty span os =
        repeated b ty (turns k b (lowered p (state_scope b (around_scope b os))) (type_of p) ty span) span os
    form_lowered (optional k p) ty span os =
        choice k (type_of p) (lowered p os) (perform c.just_ (0 ∷ []) span) (perform c.nothing_ [] span)
    form_lowered (if_ e p q) ty span os =
        bind (type_of e) (valued e os) (by_truth (lowered p (None ∷ None ∷ os)) (lowered q (None ∷ None ∷ os)) span)
    form_lowered (tree.case_ e cs) ty span os =
        bind (type_of e) (valued e os) (case_ 0 (cases_lowered cs (type_of e) (None ∷ os)) (perform c.no_case [] span))
    form_lowered (tree.call f args) ty span os = args_called args f [] span os
    form_lowered (for_ x start names e body) ty span os =
        for_loop (type_of start) (valued start os) (type_of e) (valued e (None ∷ os)) ty
        (lowered body (for_scope x names os)) span
    form_lowered (map_ names e body) ty span os =
        map_loop (type_of e) (valued e os) (array_type (type_of body)) (type_of body)
        (lowered body (map_scope names os)) span
    form_lowered form ty span os = wrong span

    -- the items of a block in order, each in a variable, and then its value
    pub items_lowered : Items → Seen → Span → Scope → c.Form
    items_lowered no_items b span os = block_form b span
    items_lowered (item i is) b span os = item_lowered i os (items_lowered is (after_item i b) span (item_name i ∷ os))

    -- an item, and then the rest
    pub item_lowered : Item → Scope → c.Form → c.Form
    item_lowered (plain e) os k = bind (type_of e) (lowered e os) k
    item_lowered (let_ x e) os k = bind (type_of e) (lowered e os) k
    item_lowered (field name x e) os k = bind (type_of e) (lowered e os) k
    item_lowered (result_ e) os k = bind (type_of e) (lowered e os) k

    -- the first alternative that has a parse; a tag follows the choice
    pub first_lowered : Alts → Span → Scope → c.Form
    first_lowered no_alts span os = wrong span
    first_lowered (alt e no_alts) span os = lowered e os
    first_lowered (alt e as_) span os = attempt (type_of e) (lowered e os) (give 0) (first_lowered as_ span os)
    first_lowered (tag name e no_alts) span os = bind (type_of e) (lowered e os) (perform (c.union_ name) (0 ∷ []) span)
    first_lowered (tag name e as_) span os =
        attempt (type_of e) (lowered e os) (perform (c.union_ name) (0 ∷ []) span) (first_lowered as_ span os)

    -- all alternatives
    pub choose_lowered : Alts → Span → Scope → c.Form
    choose_lowered no_alts span os = wrong span
    choose_lowered (alt e no_alts) span os = lowered e os
    choose_lowered (alt e as_) span os = both (lowered e os) (choose_lowered as_ span os)
    choose_lowered (tag name e no_alts) span os =
        bind (type_of e) (lowered e os) (perform (c.union_ name) (0 ∷ []) span)
    choose_lowered (tag name e as_) span os =
        both (bind (type_of e) (lowered e os) (perform (c.union_ name) (0 ∷ []) span)) (choose_lowered as_ span os)

    -- alternatives, each with the content as its variable 0
    pub cases_lowered : Cases → Ty → Scope → c.Alternatives
    cases_lowered no_cases subject os = none_left
    cases_lowered (tree.when p e cs) subject os =
        when p (within p subject) (lowered e (named_at (name_of p) ∷ os)) (cases_lowered cs subject os)
