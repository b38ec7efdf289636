-- Specialisation keeps the events: both halves, by the depth.
use Rattle.std.proofs.Common.{◌≡◌, ℕ, zero, suc, List, [], Option, Some, None, ap, subst, sym}
use Rattle.ddl_types.specs.Value.{Stream}
use Rattle.ddl_types.specs.Outcome.{Outcome, Deep, ends, tick}
use Rattle.ddl_types.specs.Joining.{leave}
use Rattle.ddl_types.specs.Growth.{Grows, at_stuck}
use Rattle.ddl_types.proofs.Growing.{grows_same, grows_on}
use Rattle.ddl_typed.specs.Tree.{Expr, Spec}
use Rattle.ddl_typed.specs.Env.{Env, empty, named_in}
use Rattle.ddl_ops.specs.Valued.{Given, given, then_parse}
use Rattle.ddl_typed.specs.Lower.{Lower}
use Rattle.ddl_typed.specs.Meaning.{level, form_at, called, den}
use Rattle.ddl_ops.proofs.Rising.{Rises, is_deep, is_value, is_fault, is_stuck, is_counted, rises_same}
use Rattle.ddl_ops.proofs.Meeting.{is_left, is_right, rises_meets}
use Rattle.ddl_typed.proofs.Law.{LowerGrows, level_grows}
use Rattle.ddl_copies.specs.Shapes.{Shape, Instance, Origin, at_name, at_place, member, argument, origin_of, unit_types}
use Rattle.ddl_copies.specs.Copied.{copied}
use Rattle.ddl_copies.proofs.Delivered.{Delivered, Specialises}
use Rattle.ddl_ops.proofs.Near.{one, two, Near, deep_left, deep_right, at_tick, less_tick, left_out, near_grows, grows_near, near_follows, near_covers}
use Rattle.ddl_copies.proofs.Fitting.{Leads, settled, further, leads_lift, Stands, Real, Fits, Bare, types_env, fits_lift}
use Rattle.ddl_copies.proofs.Seeing.{Sees, units_fit, env_types}
use Rattle.ddl_copies.proofs.Forms.{LowerKeeps, leave_given, call_keeps, den_keeps, val_keeps, repeat_keeps, fold_value_keeps, each_value_keeps, fold_keeps}
use Rattle.ddl_copies.proofs.Forms.{each_keeps}

-- ---- larger depths

rises_on : {A : Type 0} {o p q : Given A} → Rises o p → Rises p q → Rises o q
rises_on is_deep k = is_deep
rises_on is_value k = k
rises_on is_fault k = k
rises_on is_stuck k = k
rises_on (is_counted h) (is_counted k) = is_counted (rises_on h k)

lower_on : (a b c : Lower) → LowerGrows a b → LowerGrows b c → LowerGrows a c
lower_on a b c h k = record {
  den = λ e env s. grows_on (h.den e env s) (k.den e env s);
  val = λ e env. rises_on (h.val e env) (k.val e env);
  repeat = λ r env xs s. grows_on (h.repeat r env xs s) (k.repeat r env xs s);
  fold_value = λ f env x i v ps. rises_on (h.fold_value f env x i v ps) (k.fold_value f env x i v ps);
  each_value = λ m env x i v ps. rises_on (h.each_value m env x i v ps) (k.each_value m env x i v ps);
  fold = λ f env x i v ps s. grows_on (h.fold f env x i v ps s) (k.fold f env x i v ps s);
  each = λ m env x i v ps s. grows_on (h.each m env x i v ps s) (k.each m env x i v ps s);
}

lower_same : (a : Lower) → LowerGrows a a
lower_same a = record {
  den = λ e env s. grows_same _;
  val = λ e env. rises_same _;
  repeat = λ r env xs s. grows_same _;
  fold_value = λ f env x i v ps. rises_same _;
  each_value = λ m env x i v ps. rises_same _;
  fold = λ f env x i v ps s. grows_same _;
  each = λ m env x i v ps s. grows_same _;
}

abbrev pub raise : ℕ → ℕ → ℕ
raise zero m = m
raise (suc k) m = suc (raise k m)

-- a depth of the specification for each depth of the copies, where parameters were handed on at most c times
abbrev pub deeper : ℕ → ℕ → ℕ
deeper zero c = zero
deeper (suc n) c = suc (suc (raise c (deeper n (suc c))))

level_up : (spec : Spec) (k m : ℕ) → LowerGrows (level spec (suc m)) (level spec (suc (raise k m)))
level_up spec zero m = lower_same (level spec (suc m))
level_up spec (suc k) m = lower_on (level spec (suc m)) (level spec (suc (raise k m))) (level spec (suc (suc (raise k m)))) (level_up spec k m)
    (level_grows spec (suc (raise k m)))

given_grows : {A : Type 0} (o : Option A) (k k' : A → Outcome) → ((a : A) → Grows (k a) (k' a)) → Grows (then_parse (given o) k) (then_parse (given o) k')
given_grows (Some a) k k' e = e a
given_grows None k k' e = at_stuck

module _ (spec made : Spec) (params : ℕ → List ℕ) (Needed : Origin → Type 0) (number : Origin → ℕ) (delivered : Delivered spec params Needed number made) where
  -- the text of a copy on which something is done
  text_is : (n : ℕ) (e : Expr) (k : Expr → Outcome) → form_at made.decls n ≡ Some e → then_parse (called made n) k ≡ k e
  text_is n e k is = ap (λ o. then_parse (given o) k) is

  bare_sees : (c : ℕ) (f : ℕ) (τs : Instance) (p : Expr) (env copy : Env)
      (b : Bare spec params Needed f (λ to. (any : _) → Fits spec params Needed c τs any to) p env)
      → Sees spec params Needed c τs [] (types_env b.args env empty) copy
  bare_sees c f τs p env copy b = record { same = λ x i. absurd i; fits = b.fit (named_in copy) }

  -- ---- the first half: the same depth
  module _ (n : ℕ) (h : LowerKeeps one spec made params Needed number delivered (λ c. level spec n) (level made n)) where
    stand_keeps : (σ : Shape) (c : ℕ) (p : Expr) (own : Env) (q : Expr) (last copy : Env) (s : Stream) → Leads c p own q last
        → Real spec params Needed c σ (named_in copy) q last → Needed (origin_of σ) →
        Near one (den spec (level spec n) p own s) (then_parse (called made (number (origin_of σ))) (λ b. den made (level made n) b copy s))
    stand_keeps (at_name f τs) c p env q last copy s settled real needed =
        let r : Bare spec params Needed f (λ to. (any : _) → Fits spec params Needed c τs any to) p env = real in
        let there = number (member f τs) in
        let later : Grows (then_parse (called made there) (λ b. (level made n).den b copy s))
        (then_parse (called made there) (λ b. den made (level made n) b copy s)) =
        given_grows _ _ _ (λ b. (level_grows made n).den b copy s) in
        let to = types_env r.args env empty in
        let sees : Sees spec params Needed (suc c) τs [] to copy =
        record { same = λ x i. absurd i; fits = fits_lift spec params Needed c τs (named_in copy) to (r.fit (named_in copy)) } in
        let body : Near one (then_parse (called spec f) (λ e. leave ((level spec n).den e to s)))
        (then_parse (called made there) (λ b. den made (level made n) b copy s)) =
        subst (λ o. Near one o (then_parse (called made there) (λ b. den made (level made n) b copy s)))
        (sym (leave_given (form_at spec.decls f) (λ e. (level spec n).den e to s)))
        (left_out (near_grows (call_keeps one spec made params Needed number delivered (λ c. level spec n) (level made n) h c f τs [] to copy s r.called needed
        sees) later)) in
        subst (λ o. Near one (den spec (level spec n) o env s) (then_parse (called made there) (λ b. den made (level made n) b copy s))) (sym r.is)
        (less_tick (subst (λ o. Near one (then_parse o (λ to. then_parse (called spec f) (λ e. leave ((level spec n).den e to s))))
        (then_parse (called made there) (λ b. den made (level made n) b copy s)))
        (sym (env_types spec (level spec n) r.args env empty r.only)) body))
    stand_keeps (at_place site e τs) c p env r last copy s settled (is, good, values, fits) needed =
        subst (λ o. Near one (den spec (level spec n) o env s) (then_parse (called made (number (argument site e τs))) (λ b. den made (level made n) b copy s)))
        (sym is)
        (subst (λ o. Near one (den spec (level spec n) e env s) o)
        (sym (text_is (number (argument site e τs)) (copied spec number e τs) (λ b. den made (level made n) b copy s)
        (delivered.arguments site e τs needed)))
        (den_keeps one spec made params Needed number delivered (λ c. level spec n) (level made n) h c e τs site.values env copy s good
        (record { same = values; fits = fits })))
    stand_keeps σ (suc c) p env q last copy s (further {p = r} {next = next} is leads) real needed =
        let later : Grows (then_parse (called made (number (origin_of σ))) (λ b. (level made n).den b copy s))
        (then_parse (called made (number (origin_of σ))) (λ b. den made (level made n) b copy s)) =
        given_grows _ _ _ (λ b. (level_grows made n).den b copy s) in
        subst (λ o. Near one (tick (then_parse (given o) (λ k. leave ((level spec n).den k.form k.env s))))
        (then_parse (called made (number (origin_of σ))) (λ b. den made (level made n) b copy s))) (sym is)
        (less_tick (left_out (near_grows (h.stand (suc c) σ r next copy s (record { form = q; last = last; leads = leads_lift leads; real = real }) needed)
        later)))

  level_keeps : (n : ℕ) → LowerKeeps one spec made params Needed number delivered (λ c. level spec n) (level made n)
  level_keeps zero = record {
    den = λ c e σs vs env copy s good sees. deep_left tt;
    val = λ c e σs vs env copy good sees. is_left tt;
    repeat = λ c r σs vs env copy xs s good sees. deep_left tt;
    fold_value = λ c f σs vs env copy x i v ps good sees. is_left tt;
    each_value = λ c m σs vs env copy x i v ps good sees. is_left tt;
    fold = λ c f σs vs env copy x i v ps s good sees. deep_left tt;
    each = λ c m σs vs env copy x i v ps s good sees. deep_left tt;
    stand = λ c σ p own copy s st needed. deep_left tt;
  }
  level_keeps (suc n) =
      let h = level_keeps n in
      let l : ℕ → Lower = λ c. level spec n in
      record {
        den = den_keeps one spec made params Needed number delivered l (level made n) h;
        val = val_keeps one spec made params Needed number delivered l (level made n) h;
        repeat = repeat_keeps one spec made params Needed number delivered l (level made n) h;
        fold_value = fold_value_keeps one spec made params Needed number delivered l (level made n) h;
        each_value = each_value_keeps one spec made params Needed number delivered l (level made n) h;
        fold = fold_keeps one spec made params Needed number delivered l (level made n) h;
        each = each_keeps one spec made params Needed number delivered l (level made n) h;
        stand = λ c σ p own copy s st needed. stand_keeps n h σ c p own st.form st.last copy s st.leads st.real needed;
      }

  -- ---- the second half: a depth for each use of a parameter and each time that it was handed on
  module _ (n : ℕ) (h : LowerKeeps two spec made params Needed number delivered (λ c. level spec (deeper n c)) (level made n)) where
    stand_back : (c : ℕ) (σ : Shape) (k : ℕ) (p : Expr) (own : Env) (q : Expr) (last copy : Env) (s : Stream) → Leads k p own q last
        → Real spec params Needed c σ (named_in copy) q last → Needed (origin_of σ) →
        Near two (den spec (level spec (suc (raise k (deeper n (suc c))))) p own s)
        (then_parse (called made (number (origin_of σ))) (λ b. den made (level made n) b copy s))
    stand_back c (at_name f τs) k p env q last copy s settled real needed =
        let r : Bare spec params Needed f (λ to. (any : _) → Fits spec params Needed c τs any to) p env = real in
        let m = deeper n (suc c) in
        let there = number (member f τs) in
        let to = types_env r.args env empty in
        let w = r.called in
        let grow : LowerGrows (level spec (suc m)) (level spec (suc (raise k m))) = level_up spec k m in
        let sees : Sees spec params Needed c τs (params f) to copy =
        subst (λ ys. Sees spec params Needed c τs ys to copy) (sym w.values) (record { same = λ x i. absurd i; fits = r.fit (named_in copy) }) in
        let text : Near two (den spec (level spec m) w.body to s) (den made (level made n) (copied spec number w.body τs) copy s) =
        den_keeps two spec made params Needed number delivered (λ c. level spec (deeper n c)) (level made n) h c w.body τs (params f) to copy s
        (delivered.closed f τs w.body needed w.is) sees in
        let high = level spec (suc (raise k m)) in
        let body : Near two (then_parse (called spec f) (λ e. leave (high.den e to s)))
        (then_parse (called made there) (λ b. den made (level made n) b copy s)) =
        subst (λ o. Near two (then_parse (given o) (λ e. leave (high.den e to s))) (then_parse (called made there) (λ b. den made (level made n) b copy s)))
        (sym w.is)
        (subst (λ o. Near two (leave (high.den w.body to s)) o)
        (sym (text_is there (copied spec number w.body τs) (λ b. den made (level made n) b copy s) (delivered.members f τs w.body needed w.is)))
        (left_out (grows_near text (grow.den w.body to s)))) in
        subst (λ o. Near two (den spec high o env s) (then_parse (called made there) (λ b. den made (level made n) b copy s))) (sym r.is)
        (less_tick (subst (λ o. Near two (then_parse o (λ to. then_parse (called spec f) (λ e. leave (high.den e to s))))
        (then_parse (called made there) (λ b. den made (level made n) b copy s)))
        (sym (env_types spec high r.args env empty r.only)) body))
    stand_back c (at_place site e τs) k p env r last copy s settled (is, good, values, fits) needed =
        let m = deeper n (suc c) in
        let grow : LowerGrows (level spec (suc m)) (level spec (suc (suc (raise k m)))) =
        lower_on (level spec (suc m)) (level spec (suc (raise k m))) (level spec (suc (suc (raise k m)))) (level_up spec k m)
        (level_grows spec (suc (raise k m))) in
        subst (λ o. Near two (den spec (level spec (suc (raise k m))) o env s)
        (then_parse (called made (number (argument site e τs))) (λ b. den made (level made n) b copy s))) (sym is)
        (subst (λ o. Near two (den spec (level spec (suc (raise k m))) e env s) o)
        (sym (text_is (number (argument site e τs)) (copied spec number e τs) (λ b. den made (level made n) b copy s)
        (delivered.arguments site e τs needed)))
        (grows_near (den_keeps two spec made params Needed number delivered (λ c. level spec (deeper n c)) (level made n) h c e τs site.values env copy s good
        (record { same = values; fits = fits })) (grow.den e env s)))
    stand_back c σ (suc k) p env q last copy s (further {p = r} {next = next} is leads) real needed =
        subst (λ o. Near two (tick (then_parse (given o) (λ z. leave ((level spec (suc (suc (raise k (deeper n (suc c)))))).den z.form z.env s))))
        (then_parse (called made (number (origin_of σ))) (λ b. den made (level made n) b copy s))) (sym is)
        (less_tick (left_out (stand_back c σ k r next q last copy s leads real needed)))

    up : (c : ℕ) → LowerGrows (level spec (suc (deeper n (suc c)))) (level spec (suc (suc (raise c (deeper n (suc c))))))
    up c = lower_on (level spec (suc (deeper n (suc c)))) (level spec (suc (raise c (deeper n (suc c))))) (level spec (suc (suc (raise c (deeper n (suc c))))))
        (level_up spec c (deeper n (suc c))) (level_grows spec (suc (raise c (deeper n (suc c)))))

  stand_deep : (c : ℕ) (σ : Shape) (p : Expr) (own : Env) (copy : Env) (s : Stream) → Stands c (Real spec params Needed c σ (named_in copy)) p own
      → Needed (origin_of σ) →
      Near two (ends Deep) (then_parse (called made (number (origin_of σ))) (λ b. ends Deep))
  stand_deep c (at_name f τs) p env copy s st needed =
      let w = st.real.called in
      subst (λ o. Near two (ends Deep) o) (sym (text_is (number (member f τs)) (copied spec number w.body τs) (λ b.
      ends Deep) (delivered.members f τs w.body needed w.is))) (deep_right tt)
  stand_deep c (at_place site e τs) p env copy s st needed =
      subst (λ o. Near two (ends Deep) o) (sym (text_is (number (argument site e τs)) (copied spec number e τs) (λ b.
      ends Deep) (delivered.arguments site e τs needed))) (deep_right tt)

  level_back : (n : ℕ) → LowerKeeps two spec made params Needed number delivered (λ c. level spec (deeper n c)) (level made n)
  level_back zero = record {
    den = λ c e σs vs env copy s good sees. deep_right tt;
    val = λ c e σs vs env copy good sees. is_right tt;
    repeat = λ c r σs vs env copy xs s good sees. deep_right tt;
    fold_value = λ c f σs vs env copy x i v ps good sees. is_right tt;
    each_value = λ c m σs vs env copy x i v ps good sees. is_right tt;
    fold = λ c f σs vs env copy x i v ps s good sees. deep_right tt;
    each = λ c m σs vs env copy x i v ps s good sees. deep_right tt;
    stand = λ c σ p own copy s st needed. stand_deep c σ p own copy s st needed;
  }
  level_back (suc n) =
      let h = level_back n in
      let l : ℕ → Lower = λ c. level spec (deeper n c) in
      record {
        den = λ c e σs vs env copy s good sees. grows_near (den_keeps two spec made params Needed number delivered l (level made n) h c e σs vs env copy s good
            sees) ((up n h c).den e env s);
        val = λ c e σs vs env copy good sees. rises_meets (val_keeps two spec made params Needed number delivered l (level made n) h c e σs vs env copy good
            sees) ((up n h c).val e env);
        repeat = λ c r σs vs env copy xs s good sees. grows_near
            (repeat_keeps two spec made params Needed number delivered l (level made n) h c r σs vs env copy xs s good sees) ((up n h c).repeat r env xs s);
        fold_value = λ c f σs vs env copy x i v ps good sees.
            rises_meets (fold_value_keeps two spec made params Needed number delivered l (level made n) h c f σs vs env copy x i v ps good sees)
            ((up n h c).fold_value f env x i v ps);
        each_value = λ c m σs vs env copy x i v ps good sees.
            rises_meets (each_value_keeps two spec made params Needed number delivered l (level made n) h c m σs vs env copy x i v ps good sees)
            ((up n h c).each_value m env x i v ps);
        fold = λ c f σs vs env copy x i v ps s good sees. grows_near
            (fold_keeps two spec made params Needed number delivered l (level made n) h c f σs vs env copy x i v ps s good sees)
            ((up n h c).fold f env x i v ps s);
        each = λ c m σs vs env copy x i v ps s good sees. grows_near
            (each_keeps two spec made params Needed number delivered l (level made n) h c m σs vs env copy x i v ps s good sees)
            ((up n h c).each m env x i v ps s);
        stand = λ c σ p own copy s st needed. stand_back n h c σ c p own st.form st.last copy s st.leads st.real needed;
      }

pub specialises : Specialises
specialises spec made params Needed number entry variables delivered called needed s =
    let τs = unit_types variables in
    let sees : (c : ℕ) → Sees spec params Needed (suc c) τs [] empty empty =
    λ c. record { same = λ x i. absurd i; fits = units_fit spec params Needed (suc c) variables (named_in empty) } in
    record {
      first = λ n. (
        n,
        near_follows (at_tick (call_keeps one spec made params Needed number delivered (λ c. level spec n) (level made n)
            (level_keeps spec made params Needed number delivered n) 0 entry τs [] empty empty s called needed (sees 0))),
      );
      second = λ n. (
        deeper n 1,
        near_covers (at_tick (call_keeps two spec made params Needed number delivered (λ c. level spec (deeper n c)) (level made n)
            (level_back spec made params Needed number delivered n) 0 entry τs [] empty empty s called needed (sees 0))),
      );
    }
