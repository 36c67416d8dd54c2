-- Requests about a file and its graph, as values.
use Rattle.std.specs.Prelude.{ℕ, Bool, Option, List, map, string_bytes}
use Rattle.nj_requests.specs.declared.style.InputsStyle.{InputsStyle}
use Rattle.nj_requests.specs.declared.view.TargetsView.{TargetsView}
use Rattle.nj_requests.specs.declared.actions.Action.{Action}
use Rattle.nj_requests.specs.declared.actions.Action.TheVariants as action
use Rattle.nj_requests.specs.declared.actions.Request.{Request}

-- `paths` are the paths of targets or files, `names` the names of rules; `start` has the numbers of a mark; `validations`: whether
-- the validations of the edges that the targets need count as targets too
pub data ActionModel : Type 0 where
  commands : (paths : List (List ℕ)) (validations : Bool) (take : Option ℕ) (start : List ℕ) → ActionModel
  single_commands : (paths : List (List ℕ)) → ActionModel
  inputs : (paths : List (List ℕ)) (validations : Bool) (style : InputsStyle) → ActionModel
  targets : (view : TargetsView) → ActionModel
  query : (paths : List (List ℕ)) → ActionModel
  rules : (descriptions : Bool) → ActionModel
  compdb : (names : List (List ℕ)) (directory : List ℕ) (expand : Bool) → ActionModel

-- `dyndep`: whether discoveries of dyndep files are joined first
pub record RequestModel : Type 0 where
  pub file : List ℕ
  pub from_stdin : Bool
  pub dyndep : Bool
  pub action : ActionModel

-- an action
abbrev pub action_model : Action → ActionModel
action_model (action.Commands paths validations take start) = commands (map string_bytes paths.items) validations take start
action_model (action.SingleCommands paths) = single_commands (map string_bytes paths.items)
action_model (action.Inputs paths validations style) = inputs (map string_bytes paths.items) validations style
action_model (action.Targets view) = targets view
action_model (action.Query paths) = query (map string_bytes paths.items)
action_model (action.Rules descriptions) = rules descriptions
action_model (action.Compdb names directory expand) = compdb (map string_bytes names.items) (string_bytes directory) expand

-- a request
abbrev pub request_model : Request → RequestModel
request_model request = record {
  file = string_bytes request.file;
  from_stdin = request.from_stdin;
  dyndep = request.dyndep;
  action = action_model request.action;
}
