-- The command line with only the named command reads the arguments as the whole one does.
use Rattle.std.proofs.Common.{◌≡◌, ◌∙◌, ◌++◌, ◌∷◌, [], Bool, true, false, cond, List, map, ap, refl, sym, subst, true≢false}
use Rattle.std.specs.Prelude.{◌&&◌, ◌||◌, Option, Some, None, find, fold, is_some, option_map, slice_get, string_bytes, String}
use Rattle.std.specs.List.{list_all}
use Rattle.std.specs.Option.{option_map_or}
use Rattle.std.specs.Str.{bytes_eq}
use Rattle.std.proofs.lemmas.Option.{none-some, same_Some}
use Rattle.std.proofs.lemmas.Slice.Eq.{bytes_eq-Decides}
use Rattle.clap.proofs.FaultLemmas.{stopped_fault}
use Rattle.clap.proofs.OnLiterals.{clap_on_literals}
use Rattle.clap.proofs.WalkLemmas.{find-map, walk_stopped}
use Rattle.clap.specs.Faults.{built_fault, check_fault, defaults_fault, entered_fault, fault_of, is_free_app, is_simple_and_free, level_fault, other_fault, settle_fault, step_fault, walk_fault}
use Rattle.clap.specs.Kinds.{Kinds, or_else}
use Rattle.clap.specs.Simple.{App, Shape, built, built_leaf, entered, help_shape, inherited, is_simple, label_of, marked_built, names_of, rows_at, subcommand_of, with_filled_rules, with_help_flag, with_leaf_noted, with_version_flag}
use Rattle.clap.specs.Walk.{Held, Names, Rule, Step, Text, Walk, after_step, answers_to, finished, idle, nothing_held, settled, stop_after, subcommand_met, subcommand_or_other, walk, walk_from, walked}
use Rattle.gptedit_words.specs.Line.{changes, line, long_word, looks, top}
use Rattle.gptedit_words.specs.Named.{command_named, only, ReadsAs}
use Rattle.gptedit_words.proofs.Shapes.{line_is_free}

-- both of two tests that hold
left_holds : (a b : Bool) → (a && b) ≡ true → a ≡ true
left_holds true b both = refl
left_holds false b both = both

right_holds : (a b : Bool) → (a && b) ≡ true → b ≡ true
right_holds true b both = both
right_holds false b both = absurd (true≢false (sym both))

-- the found element passes the test
found_passes : {A : Type 0} (p : A → Bool) (xs : List A) (x : A) → find p xs ≡ Some x → p x ≡ true
found_passes p [] x found = absurd (none-some x found)
found_passes p (y ∷ ys) x found = by (p y) refl (λ later. found_passes p ys x later) found
  where
    by : (b : Bool) → p y ≡ b → (find p ys ≡ Some x → p x ≡ true) → cond b (Some y) (find p ys) ≡ Some x → p x ≡ true
    by true is next found = subst (λ z. p z ≡ true) (same_Some y x found) is
    by false is next found = next found

-- and any test that all elements pass
found_among : {A : Type 0} (p q : A → Bool) (xs : List A) (x : A) → list_all p xs ≡ true → find q xs ≡ Some x → p x ≡ true
found_among p q [] x all found = absurd (none-some x found)
found_among p q (y ∷ ys) x all found = by (q y) (λ later. found_among p q ys x (right_holds (p y) (list_all p ys) all) later) found
  where
    by : (b : Bool) → (find q ys ≡ Some x → p x ≡ true) → cond b (Some y) (find q ys) ≡ Some x → p x ≡ true
    by true next found = subst (λ z. p z ≡ true) (same_Some y x found) (left_holds (p y) (list_all p ys) all)
    by false next found = next found

-- building keeps the name and the aliases
built_label : (above s : Shape) → label_of (built_leaf (inherited above s)) ≡ label_of s
built_label above s = by s.is_built
  where
    by : (b : Bool) → label_of (cond b (inherited above s) (with_filled_rules (with_version_flag (with_help_flag (with_leaf_noted (marked_built (inherited above s))))))) ≡ label_of s
    by true = refl
    by false = refl

-- the command of `gptedit` while its subcommands are built
abbrev above : Shape
above = with_leaf_noted (marked_built top)

abbrev leaf : Shape → Shape
leaf s = built_leaf (inherited above s)

-- a command is found among the built ones
found_built : (w : Text) (more xs : List Shape) (s : Shape) → find (λ t. answers_to w (label_of t)) xs ≡ Some s
    → find (λ t. answers_to w (label_of t)) (map built_leaf (map (inherited above) xs ++ more)) ≡ Some (leaf s)
found_built w more [] s found = absurd (none-some s found)
found_built w more (x ∷ xs) s found =
    ap (λ (l : Text × List Text). cond (answers_to w l) (Some (leaf x)) (find (λ t. answers_to w (label_of t)) (map built_leaf (map (inherited above) xs ++ more)))) (built_label above x)
    ∙ by (answers_to w (label_of x)) (λ later. found_built w more xs s later) found
  where
    by : (b : Bool) → (find (λ t. answers_to w (label_of t)) xs ≡ Some s
        → find (λ t. answers_to w (label_of t)) (map built_leaf (map (inherited above) xs ++ more)) ≡ Some (leaf s))
        → cond b (Some x) (find (λ t. answers_to w (label_of t)) xs) ≡ Some s
        → cond b (Some (leaf x)) (find (λ t. answers_to w (label_of t)) (map built_leaf (map (inherited above) xs ++ more))) ≡ Some (leaf s)
    by true next found = ap (option_map leaf) found
    by false next found = next found

-- the walk that met the command `w` in the first word
abbrev met_walk : Text → List Text → Walk
met_walk w rest = record (walk_from nothing_held) { stopped = Some (w, rest) }

abbrev first_step : List Rule → Text → Option Text → Held × Step
first_step c w o = subcommand_or_other c o idle 1 w nothing_held

abbrev first_walk : List Rule → Text → Option Text → Walk
first_walk c w o = after_step c w (walk_from nothing_held) (first_step c w o).0 (first_step c w o).1

walk_is : (c : List Rule) (names : Names) (w : Text) (rest : List Text) → subcommand_met names idle w ≡ Some w
    → walk c names nothing_held (w ∷ rest) ≡ met_walk w rest
unfolding walked
walk_is c names w rest met =
    ap (λ (o : Option Text). fold (walked c names) (first_walk c w o) rest) met ∙ sym (walk_stopped c names (walk_from nothing_held) w [] rest)

-- the faults of the walk
abbrev met_fault : Shape → Text → Kinds
met_fault s w = or_else (or_else (other_fault s (Some w) w nothing_held) []) []

walk_fault_is : (s : Shape) (names : Names) (w : Text) (rest : List Text) → subcommand_met names idle w ≡ Some w
    → walk_fault s names (walk_from nothing_held) (w ∷ rest) ≡ met_fault s w
unfolding walked walk_fault
walk_fault_is s names w rest met =
    ap (λ (o : Option Text). or_else (or_else (other_fault s o w nothing_held) (step_fault s 1 (first_step s.rules w o).0 (first_step s.rules w o).1))
    (walk_fault s names (first_walk s.rules w o) rest)) met
    ∙ ap (λ (k : Kinds). or_else (or_else (other_fault s (Some w) w nothing_held) []) k) (stopped_fault s names (walk_from nothing_held) (w, []) rest)

-- the faults after a walk
abbrev fault_after : Shape → Kinds → Walk → Bool → Kinds → Kinds
fault_after s first end has_command below = or_else first (or_else below (or_else (settle_fault s.rules s.args_override_self end.held)
    (or_else (defaults_fault (settled s.rules end.held).rows s.rules) (check_fault s (finished s.rules end.held) has_command))))

abbrev below_fault : List Text → Option Shape → Kinds
below_fault rest o = option_map_or (λ s. level_fault s [] nothing_held rest false []) o []

-- a built command line's faults depend on the met command alone
fault_is : (a : App) (w : Text) (rest : List Text) (s : Shape) → subcommand_met (names_of a) idle w ≡ Some w
    → find (λ t. answers_to w (label_of t)) a.subs ≡ Some s
    → built_fault a nothing_held (w ∷ rest) ≡ fault_after a.top (met_fault a.top w) (met_walk w rest) true (below_fault rest (Some s))
fault_is a w rest s met found =
    let walks = walk_is a.top.rules (names_of a) w rest met in
    let faults = walk_fault_is a.top (names_of a) w rest met in
    let walked_to : built_fault a nothing_held (w ∷ rest)
    ≡ fault_after a.top (met_fault a.top w) (met_walk w rest) (is_some (entered a (Some (w, rest)))) (entered_fault a (Some (w, rest))) =
    (λ i. fault_after a.top (faults i) (walks i) (is_some (entered a (walks i).stopped)) (entered_fault a (walks i).stopped)) in
    walked_to ∙ ap (λ (o : Option Shape). fault_after a.top (met_fault a.top w) (met_walk w rest) (is_some (option_map (λ t. rows_at t rest) o)) (below_fault rest o)) found

command_is : (a : App) (w : Text) (rest : List Text) (s : Shape) → subcommand_met (names_of a) idle w ≡ Some w
    → find (λ t. answers_to w (label_of t)) a.subs ≡ Some s
    → entered a (stop_after a.top.rules (names_of a) (w ∷ rest)) ≡ Some (rows_at s rest)
command_is a w rest s met found =
    ap (λ (k : Walk). entered a k.stopped) (walk_is a.top.rules (names_of a) w rest met) ∙ ap (option_map (λ t. rows_at t rest)) found

-- the word meets a command that it names
name_met : (a : App) (w : Text) (s : Shape) → find (λ t. answers_to w (label_of t)) a.subs ≡ Some s → s.name ≡ w → subcommand_met (names_of a) idle w ≡ Some w
name_met a w s found is = ap (option_map (λ (l : Text × List Text). l.0)) (sym (find-map (answers_to w) label_of a.subs) ∙ ap (option_map label_of) found) ∙ ap (λ (n : Text). Some n) is

abbrev with_subs : List Shape → App
with_subs xs = record { top = top; subs = xs }

-- both command lines, by the found command
faults_of_named : (xs : List Shape) (first w : Text) (rest : List Text) (s : Shape) → s.name ≡ w → find (λ t. answers_to w (label_of t)) xs ≡ Some s
    → fault_of (with_subs xs) (first ∷ w ∷ rest)
    ≡ fault_after (built (with_subs [])).top (met_fault (built (with_subs [])).top w) (met_walk w rest) true (below_fault rest (Some (leaf s)))
faults_of_named xs first w rest s is found =
    let among = found_built w (help_shape ∷ []) xs s found in
    fault_is (built (with_subs xs)) w rest (leaf s) (name_met (built (with_subs xs)) w (leaf s) among (ap (λ (l : Text × List Text). l.0) (built_label above s) ∙ is)) among

command_of_named : (xs : List Shape) (first w : Text) (rest : List Text) (s : Shape) → s.name ≡ w → find (λ t. answers_to w (label_of t)) xs ≡ Some s
    → subcommand_of (with_subs xs) (first ∷ w ∷ rest) ≡ Some (rows_at (leaf s) rest)
command_of_named xs first w rest s is found =
    let among = found_built w (help_shape ∷ []) xs s found in
    command_is (built (with_subs xs)) w rest (leaf s) (name_met (built (with_subs xs)) w (leaf s) among (ap (λ (l : Text × List Text). l.0) (built_label above s) ∙ is)) among

-- each command alone is free
each_is_free : list_all (λ s. is_simple_and_free (only s)) (looks ++ changes) ≡ true
unfolding long_word clap_on_literals
each_is_free = refl

each_has_no_alias : (w : Text) (s : Shape) → answers_to w (label_of s) ≡ true → s.aliases ≡ [] → bytes_eq s.name w ≡ true
each_has_no_alias w s holds none = by (bytes_eq s.name w) (subst (λ (words : List Text). answers_to w (s.name, words) ≡ true) none holds)
  where
    by : (b : Bool) → (b || false) ≡ true → b ≡ true
    by true e = refl
    by false e = e

-- the matches of the command line are known
pub reads_simply : {words : List Text} {app : App} → ReadsAs words app → is_simple app ≡ true
reads_simply {app} reads = left_holds (is_simple app) (is_free_app (built app)) reads.free

-- the whole command line
pub whole_reads : (words : List Text) → ReadsAs words line
whole_reads words = record { free = line_is_free; faults = refl; command = refl }

-- the command line with only the command that the second word names
only_reads_words : (first w : Text) (rest : List Text) (s : Shape) → s.name ≡ w → s.aliases ≡ [] → command_named w ≡ Some s → ReadsAs (first ∷ w ∷ rest) (only s)
unfolding line command_named
only_reads_words first w rest s is none found =
    let alone : find (λ t. answers_to w (label_of t)) (s ∷ []) ≡ Some s =
    ap (λ (b : Bool). cond b (Some s) None) (found_passes (λ t. answers_to w (label_of t)) (looks ++ changes) s found) in
    record {
      free = found_among (λ t. is_simple_and_free (only t)) (λ t. answers_to w (label_of t)) (looks ++ changes) s each_is_free found;
      faults = faults_of_named (s ∷ []) first w rest s is alone ∙ sym (faults_of_named (looks ++ changes) first w rest s is found);
      command = command_of_named (s ∷ []) first w rest s is alone ∙ sym (command_of_named (looks ++ changes) first w rest s is found);
    }

-- the name that a test of texts told
named_by : (w : Text) (s : Shape) → s.aliases ≡ [] → command_named w ≡ Some s → s.name ≡ w
unfolding command_named
named_by w s none found = (bytes_eq-Decides s.name w).0 (each_has_no_alias w s (found_passes (λ t. answers_to w (label_of t)) (looks ++ changes) s found) none)

-- at the arguments themselves
pub only_reads : {A : Type 0} (words : List (String A)) (w : String A) (s : Shape) → slice_get words 1 ≡ Some w → s.aliases ≡ []
    → command_named (string_bytes w) ≡ Some s → ReadsAs (map string_bytes words) (only s)
only_reads [] w s second none found = absurd (none-some w second)
only_reads (x ∷ []) w s second none found = absurd (none-some w second)
only_reads (x ∷ y ∷ rest) w s second none found =
    subst (λ z. ReadsAs (string_bytes x ∷ string_bytes z ∷ map string_bytes rest) (only s)) (sym (same_Some y w second))
    (only_reads_words (string_bytes x) (string_bytes w) (map string_bytes rest) s (named_by (string_bytes w) s none found) none found)
