-- How far the files are read, file by file: what stops each stage, and what each one comes to.
use Rattle.std.proofs.Common.{◌≡◌, ◌<◌, ◌+◌, ◌∷◌, [], ℕ, List, length, take, map, get_or, ap, ◌∙◌, refl, sym, subst, arith, true≢false}
use Rattle.std.specs.Prelude.{IsTrue, IsSome, IfSome, Contains, Result, Ok, Err, Option, Some, None}
use Rattle.std.proofs.Math.ListN.{get_or-map}
use Rattle.std.proofs.lemmas.List.{length-map}
use Rattle.std.proofs.lemmas.List.Elements.{Contains-append_left, Contains-append_right}
use Rattle.rc_keys.specs.declared.code.Code.TheVariants.{E08}
use Rattle.rc_keys.specs.declared.fault.Fault.{Fault as Failure}
use Rattle.rc_keys.specs.declared.fault.Fault.TheVariants as failure
use Rattle.rc_keys.specs.declared.fault.Refusal.{Refusal}
use Rattle.rc_keys.specs.declared.fault.Refusal.TheVariants.{At}
use Rattle.rc_lef.specs.declared.units.Units.{Units}
use Rattle.rc_lef.specs.Technology.{Technology, no_technology}
use Rattle.rc_lef.specs.Rows.{lef_outcome}
use Rattle.rc_def.specs.declared.design.RawDesign.{RawDesign}
use Rattle.rc_def.specs.File.{def_outcome}
use Rattle.rc_rules.specs.RuleFile.{RuleFile}
use Rattle.rc_rules.specs.Rows.{rules_outcome}
use Rattle.rc_layout.specs.Layouts.{Wired, linked}
use Rattle.rc_layout.specs.Refusals.{Links, there}
use Rattle.rc_cli.specs.declared.stages.Drawn.{Drawn}
use Rattle.rc_cli.specs.declared.stages.Ruled.{Ruled}
use Rattle.rc_cli.specs.declared.stages.Placed.{Placed}
use Rattle.rc_cli.specs.declared.stop.Stop.{Stop}
use Rattle.rc_cli.specs.declared.stop.Stop.TheVariants.{Refused, Fault, NoMemory}
use Rattle.rc_cli.specs.Command.{Inputs, Request, task_words, file_words}
use Rattle.rc_cli.specs.Lines.{no_names}
use Rattle.rc_cli.specs.Outcome as course
use Rattle.rc_cli.specs.Outcome.{Texts, Course, Done, proceed, settled, read_file, most_bytes, micron, technology, design, ruled, layout}
use Rattle.rc_cli.specs.Answers.{Shelf}
use Rattle.rc_cli.specs.Work.{Keeps, HasStopped, IsUnread, IsRefusedBy, TellsFault}
use Rattle.rc_cli.proofs.Courses.{stops-first, stops-later, stops-file, stops-among, stops-refused, done-then, same-texts, told-too}
use Rattle.rc_cli.proofs.Folds.{stops-at, done-next}
use Rattle.rc_cli.proofs.Orders.{lef_step, orderly-technology, orderly-design, orderly-ruled}

-- ---- the words

among : {B : Type 0} (called : B → List ℕ) (all : List B) (i : ℕ) (x : B) → i < length all → x ≡ get_or all i x → Contains (map called all) (called x)
among called all i x lt is =
    (i, subst (λ n. i < n) (sym (length-map all called)) lt, get_or-map called all i x ∙ ap called (sym is))

first : (name : List ℕ) (names : List (List ℕ)) → Contains (name ∷ names) name
first name names = (0, omega arith, refl)

behind : (one name : List ℕ) (names : List (List ℕ)) → Contains names name → Contains (one ∷ names) name
behind one name names has = Contains-append_right (one ∷ []) names name has

pub lef-words : (asked : Request) (name : List ℕ) → Contains asked.inputs.lefs name → Contains (file_words asked) name
lef-words asked name has = Contains-append_left asked.inputs.lefs (asked.inputs.def ∷ asked.inputs.rules ∷ task_words asked.task) name has

pub def-word : (asked : Request) → Contains (file_words asked) asked.inputs.def
def-word asked =
    Contains-append_right asked.inputs.lefs (asked.inputs.def ∷ asked.inputs.rules ∷ task_words asked.task) asked.inputs.def
    (first asked.inputs.def (asked.inputs.rules ∷ task_words asked.task))

pub rules-word : (asked : Request) → Contains (file_words asked) asked.inputs.rules
rules-word asked =
    Contains-append_right asked.inputs.lefs (asked.inputs.def ∷ asked.inputs.rules ∷ task_words asked.task) asked.inputs.rules
    (behind asked.inputs.def asked.inputs.rules (asked.inputs.rules ∷ task_words asked.task) (first asked.inputs.rules (task_words asked.task)))

-- ---- the LEF files

pub lef-begins : (texts : Texts) (tech : Technology) → tech ≡ no_technology → technology texts [] ≡ Done (tech, most_bytes)
unfolding technology
lef-begins texts tech is = ap (λ t. Done (t, most_bytes)) (sym is)

pub lef-stops : {B : Type 0} (before between after : Shelf) (called : B → List ℕ) (all : List B) (i : ℕ) (x : B) (name : List ℕ) (tech : Technology) (room : ℕ) (why : Stop)
    → i < length all → x ≡ get_or all i x → name ≡ called x → Keeps before between → (IsTrue before.tells → technology before.texts (map called (take i all)) ≡ Done (tech, room))
    → IsUnread between after name (read_file between.texts name room (lef_outcome tech)) why
    → HasStopped before after (map called all) (λ texts. technology texts (map called all)) why
unfolding technology
lef-stops before between after called all i x name tech room why lt is same keeps done unread =
    stops-at before after (map called all) lef_step (Done (no_technology, most_bytes)) called all i x why lt is
    (stops-later before between after (map called all) (λ texts. technology texts (map called (take i all))) (λ texts v. lef_step texts v (called x)) (tech, room) why
    (orderly-technology (map called (take i all))) keeps done
    (stops-file between after (map called all) (called x) room (lef_outcome tech) why (among called all i x lt is)
    (subst (λ n. IsUnread between after n (read_file between.texts n room (lef_outcome tech)) why) same unread)))

pub lef-done : {B : Type 0} (before between : Shelf) (called : B → List ℕ) (all : List B) (i : ℕ) (x : B) (name : List ℕ) (tech new : Technology) (room left : ℕ)
    → i < length all → x ≡ get_or all i x → name ≡ called x → Keeps before between → (IsTrue before.tells → technology before.texts (map called (take i all)) ≡ Done (tech, room))
    → (IsTrue between.tells → read_file between.texts name room (lef_outcome tech) ≡ Done (new, left))
    → IsTrue before.tells → technology before.texts (map called (take (i + 1) all)) ≡ Done (new, left)
unfolding technology
lef-done before between called all i x name tech new room left lt is same keeps done read told =
    done-next lef_step before.texts (Done (no_technology, most_bytes)) called all i x (tech, room) (new, left) lt is (done told)
    (ap (λ texts. read_file texts (called x) room (lef_outcome tech)) (sym (same-texts before between keeps))
    ∙ ap (λ n. read_file between.texts n room (lef_outcome tech)) (sym same) ∙ read (told-too before between keeps told))

-- ---- the DEF file

abbrev pub drawn : Technology → RawDesign × ℕ → Drawn
drawn tech read = record { tech = tech; design = read.0; room = read.1 }

abbrev pub def_step : Inputs → Texts → Technology × ℕ → Course Drawn
def_step inputs texts known = proceed (read_file texts inputs.def known.1 def_outcome) (λ read. Done (drawn known.0 read))

pub design-stops-first : (before after : Shelf) (asked : Request) (lefs : List (List ℕ)) (why : Stop) → lefs ≡ asked.inputs.lefs
    → HasStopped before after lefs (λ texts. technology texts lefs) why → HasStopped before after (file_words asked) (λ texts. design texts asked.inputs) why
unfolding design
design-stops-first before after asked lefs why same stopped =
    stops-first before after (file_words asked) (λ texts. technology texts asked.inputs.lefs) (def_step asked.inputs) why
    (stops-among before after asked.inputs.lefs (file_words asked) (λ texts. technology texts asked.inputs.lefs) why (lef-words asked)
    (subst (λ l. HasStopped before after l (λ texts. technology texts l) why) same stopped))

pub design-stops-later : (before between after : Shelf) (asked : Request) (lefs : List (List ℕ)) (name : List ℕ) (tech : Technology) (room : ℕ) (why : Stop)
    → lefs ≡ asked.inputs.lefs → name ≡ asked.inputs.def → Keeps before between → (IsTrue before.tells → technology before.texts lefs ≡ Done (tech, room))
    → IsUnread between after name (read_file between.texts name room def_outcome) why
    → HasStopped before after (file_words asked) (λ texts. design texts asked.inputs) why
unfolding design
design-stops-later before between after asked lefs name tech room why same is keeps done unread =
    stops-later before between after (file_words asked) (λ texts. technology texts asked.inputs.lefs) (def_step asked.inputs) (tech, room) why
    (orderly-technology asked.inputs.lefs) keeps (subst (λ l. IsTrue before.tells → technology before.texts l ≡ Done (tech, room)) same done)
    (stops-first between after (file_words asked) (λ texts. read_file texts asked.inputs.def room def_outcome) (λ texts read. Done (drawn tech read)) why
    (stops-file between after (file_words asked) asked.inputs.def room def_outcome why (def-word asked)
    (subst (λ n. IsUnread between after n (read_file between.texts n room def_outcome) why) is unread)))

pub design-done : (before between : Shelf) (asked : Request) (lefs : List (List ℕ)) (name : List ℕ) (tech : Technology) (room left : ℕ) (raw : RawDesign)
    → lefs ≡ asked.inputs.lefs → name ≡ asked.inputs.def → Keeps before between → (IsTrue before.tells → technology before.texts lefs ≡ Done (tech, room))
    → (IsTrue between.tells → read_file between.texts name room def_outcome ≡ Done (raw, left))
    → IsTrue before.tells → design before.texts asked.inputs ≡ Done (record { tech = tech; design = raw; room = left })
unfolding design
design-done before between asked lefs name tech room left raw same is keeps done read =
    done-then before between (λ texts. technology texts asked.inputs.lefs) (def_step asked.inputs) (tech, room) (record { tech = tech; design = raw; room = left })
    keeps (subst (λ l. IsTrue before.tells → technology before.texts l ≡ Done (tech, room)) same done)
    (λ told. ap (λ c. proceed c (λ read. Done (drawn tech read))) (ap (λ n. read_file between.texts n room def_outcome) (sym is) ∙ read told))

-- ---- the rule file

abbrev pub with_rules : Drawn → RuleFile × ℕ → Ruled
with_rules known read = record { tech = known.tech; design = known.design; rules = read.0; room = read.1 }

abbrev pub rules_file : Inputs → Texts → Drawn → Units → Course Ruled
rules_file inputs texts known units =
    proceed (read_file texts inputs.rules known.room (rules_outcome units known.tech)) (λ read. Done (with_rules known read))

abbrev pub rules_step : Inputs → Texts → Drawn → Course Ruled
rules_step inputs texts known = proceed (settled no_names inputs.def (micron known)) (rules_file inputs texts known)

pub ruled-stops-first : (before after : Shelf) (asked : Request) (why : Stop)
    → HasStopped before after (file_words asked) (λ texts. design texts asked.inputs) why → HasStopped before after (file_words asked) (λ texts. ruled texts asked.inputs) why
unfolding ruled
ruled-stops-first before after asked why stopped =
    stops-first before after (file_words asked) (λ texts. design texts asked.inputs) (rules_step asked.inputs) why stopped

-- no file set the units of a micron
pub ruled-stops-between : (before between : Shelf) (asked : Request) (name : List ℕ) (known : Drawn) (why : Stop)
    → name ≡ asked.inputs.def → Keeps before between → (IsTrue before.tells → design before.texts asked.inputs ≡ Done known)
    → IsRefusedBy (settled no_names name (micron known)) why
    → HasStopped before between (file_words asked) (λ texts. ruled texts asked.inputs) why
unfolding ruled
ruled-stops-between before between asked name known why is keeps done refused =
    stops-later before between between (file_words asked) (λ texts. design texts asked.inputs) (rules_step asked.inputs) known why
    (orderly-design asked.inputs) keeps done
    (stops-first between between (file_words asked) (λ texts. settled no_names asked.inputs.def (micron known)) (λ texts units. rules_file asked.inputs texts known units) why
    (stops-refused between between (file_words asked) (settled no_names asked.inputs.def (micron known)) why
    (subst (λ n. IsRefusedBy (settled no_names n (micron known)) why) is refused)))

-- the units of a micron are there
abbrev pub HasUnits : Drawn → Units → Type 0
HasUnits known units = known.tech.units ≡ Some units

micron-done : (name : List ℕ) (known : Drawn) (units : Units) → HasUnits known units → settled no_names name (micron known) ≡ Done units
micron-done name known units some = ap (λ o. settled no_names name (there (At E08 known.design.units_line) o)) some

rules-stop : (between after : Shelf) (asked : Request) (known : Drawn) (units : Units) (why : Stop) → HasUnits known units
    → HasStopped between after (file_words asked) (λ texts. rules_file asked.inputs texts known units) why
    → HasStopped between after (file_words asked) (λ texts. rules_step asked.inputs texts known) why
rules-stop between after asked known units why some stopped =
    subst (λ (c : Course Units). HasStopped between after (file_words asked) (λ texts. proceed c (rules_file asked.inputs texts known)) why)
    (sym (micron-done asked.inputs.def known units some)) stopped

pub ruled-stops-later : (before between after : Shelf) (asked : Request) (name : List ℕ) (known : Drawn) (units : Units) (why : Stop)
    → name ≡ asked.inputs.rules → HasUnits known units → Keeps before between → (IsTrue before.tells → design before.texts asked.inputs ≡ Done known)
    → IsUnread between after name (read_file between.texts name known.room (rules_outcome units known.tech)) why
    → HasStopped before after (file_words asked) (λ texts. ruled texts asked.inputs) why
unfolding ruled
ruled-stops-later before between after asked name known units why is some keeps done unread =
    stops-later before between after (file_words asked) (λ texts. design texts asked.inputs) (rules_step asked.inputs) known why
    (orderly-design asked.inputs) keeps done
    (rules-stop between after asked known units why some
    (stops-first between after (file_words asked) (λ texts. read_file texts asked.inputs.rules known.room (rules_outcome units known.tech)) (λ texts read. Done (with_rules known read)) why
    (stops-file between after (file_words asked) asked.inputs.rules known.room (rules_outcome units known.tech) why (rules-word asked)
    (subst (λ n. IsUnread between after n (read_file between.texts n known.room (rules_outcome units known.tech)) why) is unread))))

pub ruled-done : (before between : Shelf) (asked : Request) (name : List ℕ) (known : Drawn) (units : Units) (rules : RuleFile) (left : ℕ)
    → name ≡ asked.inputs.rules → HasUnits known units → Keeps before between → (IsTrue before.tells → design before.texts asked.inputs ≡ Done known)
    → (IsTrue between.tells → read_file between.texts name known.room (rules_outcome units known.tech) ≡ Done (rules, left))
    → IsTrue before.tells → ruled before.texts asked.inputs ≡ Done (record { tech = known.tech; design = known.design; rules = rules; room = left })
unfolding ruled
ruled-done before between asked name known units rules left is some keeps done read =
    done-then before between (λ texts. design texts asked.inputs) (rules_step asked.inputs) known (with_rules known (rules, left)) keeps done
    (λ told. ap (λ c. proceed c (rules_file asked.inputs between.texts known)) (micron-done asked.inputs.def known units some)
    ∙ ap (λ c. proceed c (λ read. Done (with_rules known read))) (ap (λ n. read_file between.texts n known.room (rules_outcome units known.tech)) (sym is) ∙ read told))

-- ---- the layout

abbrev pub link_step : Inputs → Ruled → Course Placed
link_step inputs known =
    proceed (settled no_names inputs.def (linked known.tech known.design)) (λ wired. Done (record { layout = wired; rules = known.rules; room = known.room }))

pub layout-stops-first : (before after : Shelf) (asked : Request) (why : Stop)
    → HasStopped before after (file_words asked) (λ texts. ruled texts asked.inputs) why → HasStopped before after (file_words asked) (λ texts. layout texts asked.inputs) why
unfolding layout
layout-stops-first before after asked why stopped =
    stops-first before after (file_words asked) (λ texts. ruled texts asked.inputs) (λ texts known. link_step asked.inputs known) why stopped

refused-link : (name : List ℕ) (outcome : Result Wired Refusal) (fault : Failure) (why : Stop) → Links {A = Wired} (Err fault) outcome → TellsFault no_names name fault why
    → IsRefusedBy (settled no_names name outcome) why
refused-link name outcome (failure.Refused refusal) (Refused line) refused is = ap (settled no_names name) refused ∙ ap course.Refused (sym is)
refused-link name outcome failure.NoMemory (Refused line) refused is = absurd is
refused-link name outcome (failure.Refused refusal) (Fault line) refused is = absurd is
refused-link name outcome failure.NoMemory (Fault line) refused is = absurd is
refused-link name outcome fault NoMemory refused is = tt

pub layout-stops-later : (before after : Shelf) (asked : Request) (name : List ℕ) (known : Ruled) (fault : Failure) (why : Stop)
    → name ≡ asked.inputs.def → Keeps before after → (IsTrue before.tells → ruled before.texts asked.inputs ≡ Done known)
    → Links {A = Wired} (Err fault) (linked known.tech known.design) → TellsFault no_names name fault why
    → HasStopped before after (file_words asked) (λ texts. layout texts asked.inputs) why
unfolding layout
layout-stops-later before after asked name known fault why is keeps done refused tells =
    stops-later before after after (file_words asked) (λ texts. ruled texts asked.inputs) (λ texts known. link_step asked.inputs known) known why
    (orderly-ruled asked.inputs) keeps done
    (stops-first after after (file_words asked) (λ texts. settled no_names asked.inputs.def (linked known.tech known.design))
    (λ texts wired. Done (record { layout = wired; rules = known.rules; room = known.room })) why
    (stops-refused after after (file_words asked) (settled no_names asked.inputs.def (linked known.tech known.design)) why
    (refused-link asked.inputs.def (linked known.tech known.design) fault why refused (subst (λ n. TellsFault no_names n fault why) is tells))))

pub layout-done : (before after : Shelf) (asked : Request) (known : Ruled) (wired : Wired)
    → Keeps before after → (IsTrue before.tells → ruled before.texts asked.inputs ≡ Done known) → linked known.tech known.design ≡ Ok wired
    → IsTrue before.tells → layout before.texts asked.inputs ≡ Done (record { layout = wired; rules = known.rules; room = known.room })
unfolding layout
layout-done before after asked known wired keeps done ok =
    done-then before after (λ texts. ruled texts asked.inputs) (λ texts known. link_step asked.inputs known) known (record { layout = wired; rules = known.rules; room = known.room })
    keeps done (λ told. ap (λ c. proceed c (λ wired. Done (record { layout = wired; rules = known.rules; room = known.room }))) (ap (settled no_names asked.inputs.def) ok))

-- what is known of units that are there
pub some-units : (o : Option Units) (P : Units → Type 0) → IsSome o → IfSome o P → (units : Units) × (o ≡ Some units) × P units
some-units (Some units) P some known = (units, refl, known)
some-units None P some known = absurd (true≢false (sym some))
