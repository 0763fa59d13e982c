-- What every planned statement leaves of a clean view.
use Rattle.spec_script.specs.declared.statement.Statement.{Statement}
use Rattle.spec_words.specs.Views.{View}
use Rattle.spec_statements.specs.Statements.{kind_of}
use Rattle.spec_clean.specs.CleanFiles.{HasCleanMaps}
use Rattle.spec_steps.specs.Sgam.{HasExactSgam}
use Rattle.law_net.specs.GoodViews.{Leads}
use Rattle.law_statements.specs.Statements.{HasBytes, IfPlanned}
use Rattle.law_kept.specs.Parts.{ChangesTaken}
use Rattle.law_kept.specs.Views.{IsCleanView, OthersHoldExtents}

-- where a planned statement gives a reply on a clean view, maps and chains stay clean
abbrev pub StatementsLeaveMapsClean : Type 0
StatementsLeaveMapsClean = (view : View) (st : Statement) → HasBytes st → IsCleanView view →
    IfPlanned (λ plan. Leads plan view (λ reply after. HasCleanMaps view.shape.geometry after.now)) (kind_of view.shape st)

-- what a part of a clean file reads is changed only where the statement has taken the part's resource
abbrev pub StatementsChangeTaken : Type 0
StatementsChangeTaken = (view : View) (st : Statement) → HasBytes st → IsCleanView view →
    IfPlanned (λ plan. Leads plan view (λ reply after. ChangesTaken view after)) (kind_of view.shape st)

-- and SGAM stays exact, where it was, and others hold extents with bytes
abbrev pub StatementsLeaveSgamExact : Type 0
StatementsLeaveSgamExact = (view : View) (st : Statement) → HasBytes st → IsCleanView view → OthersHoldExtents view → HasExactSgam view.shape.geometry view.now →
    IfPlanned (λ plan. Leads plan view (λ reply after. HasExactSgam view.shape.geometry after.now)) (kind_of view.shape st)
