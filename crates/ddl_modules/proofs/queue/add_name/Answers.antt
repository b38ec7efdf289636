use Rattle.std.proofs.Common.{◌≡◌, ◌≤◌, ◌<◌, length, vec_len, sym, ap, ◌∙◌, arith, [], ◌∷◌, ◌++◌}
use Rattle.ddl_modules.specs.Queue.{place}
use Rattle.ddl_modules.proofs.QueueLemmas.{full_at, with_name-new, with_name-old}
use Rattle.ddl_modules.proofs.queue.add_name.Goals as goal

pub returns-then-place-len-clause-added : goal.returns-then-place-len-clause-added
returns-then-place-len-clause-added c =
    let here : c.place-place.result ≡ place c.args.names.now.items c.args.name.now.text =
    rw c.get.ensures at (rw c.deref.ensures.value at c.place-place.ensures.place) in
    let long : length c.args.names.now.items ≡ vec_len c.args.names.now = rw c.deref.ensures.value at c.deref.ensures.len in
    let within : place c.args.names.now.items c.args.name.now.text < length c.args.names.now.items = omega arith in
    sym (with_name-old c.args.names.now.items c.args.name.now.text within)

pub returns-then-place-eq-MOST_NAMES-clause-full : goal.returns-then-place-eq-MOST_NAMES-clause-full
returns-then-place-eq-MOST_NAMES-clause-full c =
    let here : c.place-place.result ≡ place c.args.names.now.items c.args.name.now.text =
    rw c.get.ensures at (rw c.deref.ensures.value at c.place-place.ensures.place) in
    let within : c.place-place.result ≤ length c.args.names.now.items = rw c.deref.ensures.value at c.place-place.ensures.within in
    let long : length c.args.names.now.items ≡ vec_len c.args.names.now = rw c.deref.ensures.value at c.deref.ensures.len in
    let full : length c.args.names.now.items ≡ 257 = omega arith in
    let new : length c.args.names.now.items ≤ place c.args.names.now.items c.args.name.now.text = omega arith in
    (c.in_ok-of.ensures, full_at c.args.names.now.items c.args.name.now.text c.args.name.now.span full new)

pub overflow_cast-result-2 : goal.overflow_cast-result-2
overflow_cast-result-2 c =
    let within : c.place-place.result ≤ length c.args.names.now.items = rw c.deref.ensures.value at c.place-place.ensures.within in
    let long : length c.args.names.now.items ≡ vec_len c.args.names.now = rw c.deref.ensures.value at c.deref.ensures.len in
    omega arith

pub returns-clause-added : goal.returns-clause-added
returns-clause-added c =
    let here : c.place-place.result ≡ place c.args.names.now.items c.args.name.now.text =
    rw c.get.ensures at (rw c.deref.ensures.value at c.place-place.ensures.place) in
    let long : length c.args.names.now.items ≡ vec_len c.args.names.now = rw c.deref.ensures.value at c.deref.ensures.len in
    let new : length c.args.names.now.items ≤ place c.args.names.now.items c.args.name.now.text = omega arith in
    let name : c.in_ok-of-2.field-0 ≡ c.args.name.now.text = c.in_ok-of-2.ensures ∙ c.get-2.ensures in
    c.in_ok-push.ensures.items ∙ (ap (λ x. c.args.names.now.items ++ x ∷ []) name ∙ sym (with_name-new c.args.names.now.items c.args.name.now.text new))

pub returns-clause-few : goal.returns-clause-few
returns-clause-few c =
    let within : c.place-place.result ≤ length c.args.names.now.items = rw c.deref.ensures.value at c.place-place.ensures.within in
    let long : length c.args.names.now.items ≡ vec_len c.args.names.now = rw c.deref.ensures.value at c.deref.ensures.len in
    let longer = c.in_ok-push.ensures.len in
    omega arith
