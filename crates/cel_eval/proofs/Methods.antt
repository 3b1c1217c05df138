-- The arms of the evaluation that take more than a step.
use Rattle.std.proofs.Common.{◌≡◌, ◌≤◌, ℕ, ◌+◌, List, Bool, false, if◌then◌else◌, map, refl, arith, ap, sym, ◌∙◌, subst}
use Rattle.std.specs.Prelude.{Option, Some, Result, Ok}
use Rattle.cel_tree.specs.declared.tree.BinaryOp.{BinaryOp}
use Rattle.cel_tree.specs.declared.tree.Tree.{Tree}
use Rattle.cel_tree.specs.Ast.{Ast, Form, Binary, Method, Asts, tree_view, asts_of}
use Rattle.cel_tree.specs.Typing.{is_bind}
use Rattle.cel_value.specs.declared.value.Value.{Value}
use Rattle.cel_value.specs.declared.error.EvalError.{EvalError}
use Rattle.cel_value.specs.Device.{Device}
use Rattle.cel_value.specs.Values.{◌>>=◌, Gives}
use Rattle.cel_meaning.specs.declared.connective.Connective.{Connective}
use Rattle.cel_meaning.specs.Folds.{tested, as_value, connective_of, joined}
use Rattle.cel_meaning.specs.Steps.{behind, unless_decided, weighed}
use Rattle.cel_meaning.specs.Meaning.{Bindings, means, form_means, bind_means, operation}
use Rattle.cel_meaning.specs.Cost.{cost, within, bind_steps, by_connective}
use Rattle.cel_eval.specs.Answers.{Counts}
use Rattle.cel_eval.specs.Parts.{connected_means, connected_steps, method_means, method_steps}
use Rattle.cel_eval.proofs.Stops.{counts-after, connect-means, connect-counts, connect-rooms}

pub method-means-is : (device : Device) (names : Bindings) (form : Form) (t : Ast) (word : List ℕ) (ts : Asts) (x : Value) →
    form ≡ Method t word ts → is_bind t word ≡ false → means device names t ≡ Ok x → form_means device names form ≡ method_means device names x word ts
method-means-is device names form t word ts x e b m =
    ap (form_means device names) e
    ∙ ap (λ (c : Bool). if c then bind_means device names ts else (means device names t >>= λ y. method_means device names y word ts)) b
    ∙ ap (λ (r : Result Value EvalError). r >>= λ y. method_means device names y word ts) m

pub method-steps-are : (device : Device) (names : Bindings) (form : Form) (t : Ast) (word : List ℕ) (ts : Asts) (x : Value) →
    form ≡ Method t word ts → is_bind t word ≡ false → means device names t ≡ Ok x → within device names form ≡ cost device names t + method_steps device names x word ts
method-steps-are device names form t word ts x e b m =
    ap (within device names) e
    ∙ ap (λ (c : Bool). if c then bind_steps device names ts else (cost device names t + behind (means device names t) (λ y. method_steps device names y word ts))) b
    ∙ ap (λ (r : Result Value EvalError). cost device names t + behind r (λ y. method_steps device names y word ts)) m

-- the function's name and the arguments as they are passed on
pub method-arm : (device : Device) (names : Bindings) (form : Form) (t : Ast) (word word' : List ℕ) (ts ts' : List Tree) (x : Value) (result : Result Value EvalError) →
    form ≡ Method t word (asts_of (map tree_view ts)) → is_bind t word ≡ false → means device names t ≡ Ok x → word' ≡ word → ts' ≡ ts →
    Gives result (method_means device names x word' (asts_of (map tree_view ts'))) → Gives result (form_means device names form)
method-arm device names form t word word' ts ts' x result e b m f a g =
    let is : form_means device names form ≡ method_means device names x word (asts_of (map tree_view ts)) =
    method-means-is device names form t word (asts_of (map tree_view ts)) x e b m in
    let same : method_means device names x word' (asts_of (map tree_view ts')) ≡ method_means device names x word (asts_of (map tree_view ts)) =
    (λ i. method_means device names x (f i) (asts_of (map tree_view (a i)))) in
    subst (λ (r : Result Value EvalError). Gives result r) (same ∙ sym is) g

pub method-room : (device : Device) (names : Bindings) (form : Form) (t : Ast) (word word' : List ℕ) (ts ts' : List Tree) (x : Value) →
    form ≡ Method t word (asts_of (map tree_view ts)) → is_bind t word ≡ false → means device names t ≡ Ok x → word' ≡ word → ts' ≡ ts →
    within device names form ≡ cost device names t + method_steps device names x word' (asts_of (map tree_view ts'))
method-room device names form t word word' ts ts' x e b m f a =
    method-steps-are device names form t word (asts_of (map tree_view ts)) x e b m
    ∙ (λ i. cost device names t + method_steps device names x (sym f i) (asts_of (map tree_view (sym a i))))

-- ---- `&&` and `||` after the left side

pub connect-arm : (device : Device) (names : Bindings) (form : Form) (o : BinaryOp) (t u t' u' : Ast) (c : Connective) (left : Result Bool EvalError) (result : Result Value EvalError) →
    form ≡ Binary o t u → connective_of o ≡ Some c → t' ≡ t → u' ≡ u →
    Gives left (tested (means device names t')) → Gives result (connected_means device names c left u') → Gives result (form_means device names form)
connect-arm device names form o t u t' u' c left result e found f g gl gr =
    let is : form_means device names form ≡ as_value (joined c (tested (means device names t')) (tested (means device names u'))) =
    ap (form_means device names) e
    ∙ (λ i. operation device (connective_of o) o (means device names (sym f i)) (means device names (sym g i)))
    ∙ ap (λ (k : Option Connective). operation device k o (means device names t') (means device names u')) found in
    subst (λ (r : Result Value EvalError). Gives result r) (sym is)
    (connect-means c left (tested (means device names t')) (tested (means device names u')) result gl gr)

connect-within : (device : Device) (names : Bindings) (form : Form) (o : BinaryOp) (t u t' u' : Ast) (c : Connective) →
    form ≡ Binary o t u → connective_of o ≡ Some c → t' ≡ t → u' ≡ u →
    within device names form ≡ cost device names t' + unless_decided c (tested (means device names t')) (cost device names u')
connect-within device names form o t u t' u' c e found f g =
    ap (within device names) e
    ∙ (λ i. cost device names (sym f i) + by_connective (connective_of o) (λ k. unless_decided k (tested (means device names (sym f i))) (cost device names (sym g i))) (behind (means device names (sym f i)) (λ x. cost device names (sym g i)) + weighed o (means device names (sym f i)) (means device names (sym g i))))
    ∙ ap (λ (q : Option Connective). cost device names t' + by_connective q (λ k. unless_decided k (tested (means device names t')) (cost device names u')) (behind (means device names t') (λ x. cost device names u') + weighed o (means device names t') (means device names u'))) found

pub connect-count : (device : Device) (names : Bindings) (form : Form) (o : BinaryOp) (t u t' u' : Ast) (c : Connective) (left : Result Bool EvalError) (result : Result Value EvalError) (old mid new : ℕ) →
    form ≡ Binary o t u → connective_of o ≡ Some c → t' ≡ t → u' ≡ u →
    Gives left (tested (means device names t')) → Counts left (old + 1) mid (cost device names t') →
    Gives result (connected_means device names c left u') → Counts result mid new (connected_steps device names c left u') →
    Counts result old new (1 + within device names form)
connect-count device names form o t u t' u' c left result old mid new e found f g gl cl gr cr =
    let is : within device names form ≡ cost device names t' + unless_decided c (tested (means device names t')) (cost device names u') =
    connect-within device names form o t u t' u' c e found f g in
    counts-after result old (old + 1) new 1 (cost device names t' + unless_decided c (tested (means device names t')) (cost device names u')) (1 + within device names form) refl (omega (arith, is))
    (connect-counts c left (tested (means device names t')) (tested (means device names u')) result (old + 1) mid new (cost device names t') (cost device names u') gl cl gr cr)

pub connect-room : (device : Device) (names : Bindings) (form : Form) (o : BinaryOp) (t u t' u' : Ast) (c : Connective) (left : Result Bool EvalError) (old mid : ℕ) →
    form ≡ Binary o t u → connective_of o ≡ Some c → t' ≡ t → u' ≡ u →
    Gives left (tested (means device names t')) → Counts left (old + 1) mid (cost device names t') →
    mid + connected_steps device names c left u' ≤ old + (1 + within device names form)
connect-room device names form o t u t' u' c left old mid e found f g gl cl =
    let is : within device names form ≡ cost device names t' + unless_decided c (tested (means device names t')) (cost device names u') =
    connect-within device names form o t u t' u' c e found f g in
    let room = connect-rooms c left (tested (means device names t')) (old + 1) mid (cost device names t') (cost device names u') gl cl in
    omega (arith, is, room)
