-- The forms that a stack holds.
use Rattle.std.proofs.Common.{◌≡◌, ◌<◌, ℕ, ◌+◌, ◌-◌, suc, get_or, take, MatchOption, List, [], ◌∷◌, ◌++◌, length, Option, Some, None, refl, ap, ◌∙◌, sym, arith}
use Rattle.std.specs.Option.{option_to_list}
use Rattle.std.proofs.Math.Seq.{take-suc}
use Rattle.std.proofs.lemmas.List.{take_all}
use Rattle.ddl_states.specs.declared.frame.Frame.{Frame}
use Rattle.ddl_reader.specs.Frames as machine
use Rattle.ddl_states.specs.FrameView.{frame_view}
use Rattle.ddl_states.specs.StackView.{stack_view}
use Rattle.ddl_reader.specs.StepExpr.{least, hole}

pub view-push : (fs : List Frame) (f : Frame) (gs : List machine.Frame) → stack_view (fs ++ f ∷ []) gs ≡ frame_view f ∷ stack_view fs gs
view-push [] f gs = refl
view-push (g ∷ fs) f gs = view-push fs f (frame_view g ∷ gs)

pub length-view : (fs : List Frame) (gs : List machine.Frame) → length (stack_view fs gs) ≡ length fs + length gs
length-view [] gs = omega arith
length-view (f ∷ fs) gs = omega (arith, length-view fs (frame_view f ∷ gs))

split_last : (xs : List Frame) (f : Frame) → 0 < length xs → f ≡ get_or xs (length xs - 1) f → xs ≡ take (length xs - 1) xs ++ f ∷ []
split_last xs f some e =
    let n : suc (length xs - 1) ≡ length xs = omega arith in
    let below : length xs - 1 < length xs = omega arith in
    sym (take_all (length xs) xs (omega arith)) ∙ ap (λ k. take k xs) (sym n) ∙ take-suc xs (length xs - 1) f below
    ∙ ap (λ z. take (length xs - 1) xs ++ z ∷ []) (sym e)

pub view-last : (xs : List Frame) (f : Frame) → 0 < length xs → f ≡ get_or xs (length xs - 1) f → least (stack_view xs []) ≡ hole (frame_view f)
view-last xs f some e = ap (λ z. least (stack_view z [])) (split_last xs f some e) ∙ ap least (view-push (take (length xs - 1) xs) f [])

pub view-pop : (o : Option Frame) (xs ys : List Frame) (n : ℕ) → n ≡ length xs → xs ≡ ys ++ option_to_list o → MatchOption o (n ≡ 0) (λ f. Unit {0})
    → MatchOption o ((stack_view xs [] ≡ []) × (stack_view ys [] ≡ [])) (λ f. stack_view xs [] ≡ frame_view f ∷ stack_view ys [])
view-pop None [] [] n l e h = (refl, refl)
view-pop None [] (y ∷ ys) n l e h = cc
view-pop None (x ∷ xs) ys n l e h = absurd (omega arith)
view-pop (Some f) xs ys n l e h = ap (λ z. stack_view z []) e ∙ view-push ys f []

pub none_of : (o : Option Frame) (a b c d : ℕ) → MatchOption o ((a ≡ 0) × (b ≡ 0)) (λ f. c ≡ d) → MatchOption o (a ≡ 0) (λ f. Unit {0})
none_of None a b c d h = h.0
none_of (Some f) a b c d h = tt
