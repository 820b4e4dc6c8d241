-- Which response is of which branch (RFC 3261 16.7 step 1, 17.1.3).
use Rattle.std.specs.Prelude.{◌≡◌, ◌⊎◌, ℕ, true, false, List, codes, Contains, Some, Ok}
use Rattle.sip_message_fields.specs.declared.field.Field.{Field}
use Rattle.sip_message_fields.specs.declared.field_name.FieldName.TheVariants as Name
use Rattle.sip_message_fields.specs.Values.{first_value}
use Rattle.sip_header.specs.declared.via.Via.{Via}
use Rattle.sip_header.specs.declared.cseq.CSeq.{CSeq}
use Rattle.sip_header.specs.Via.{via_of}
use Rattle.sip_header.specs.Parameters.{branch_of}
use Rattle.sip_header.specs.CoreFields.{cseq_in}
use Rattle.sip_route.specs.Own.{is_own_via}
use Rattle.sip_edit.specs.OwnVia.{branch_text}
use Rattle.sip_model.specs.state.declared.server.Server.{Server}
use Rattle.sip_model.specs.state.declared.branch.Branch.{Branch}
use Rattle.sip_model.specs.state.declared.open_request.OpenRequest.{OpenRequest}
use Rattle.sip_model.specs.verdict_model.Verdict.{responding}

-- the method that a branch is sent with: CANCEL if it is one, else that of its request (RFC 3261 9.1)
abbrev pub IsMethodOf : OpenRequest → Branch → List ℕ → Type 0
IsMethodOf r b method = ((b.is_cancel ≡ true) × (method ≡ codes "CANCEL")) ⊎ ((b.is_cancel ≡ false) × (method ≡ r.key.method))

-- The fields of a response say a branch: the top Via can be read and is this server's, and its branch parameter is the text that
-- this server put there for that branch; the one CSeq
-- has the branch's method (RFC 3261 17.1.3).
pub record SaysBranch (server : Server) (r : OpenRequest) (b : Branch) (fields : List Field) : Type 0 where
  pub value : List ℕ
  pub via : Via
  pub cseq : CSeq
  pub is_top : first_value Name.Via fields ≡ Some value
  pub reads : via_of value ≡ Some via
  pub is_own : is_own_via server.config.own via ≡ true
  pub has_text : branch_of via.parameters ≡ Some (branch_text server.word r.number b.number)
  pub is_one_cseq : cseq_in fields ≡ Ok cseq
  pub has_method : IsMethodOf r b cseq.method

-- a response is of an open request's branch
pub record IsOfBranch (server : Server) (requests : List OpenRequest) (fields : List Field) (r : OpenRequest) (b : Branch) : Type 0 where
  pub is_open : Contains requests r
  pub is_its : Contains r.branches b
  pub says : SaysBranch server r b fields

-- a response is given to a branch of an open request that has the number of a branch and is sent with its method
pub record IsGivenTo (server : Server) (requests : List OpenRequest) (fields : List Field) (r : OpenRequest) (b : Branch) : Type 0 where
  pub found : Branch
  pub method : List ℕ
  pub is_given : responding server requests fields ≡ Some (r, found)
  pub is_its : Contains r.branches found
  pub has_number : found.number ≡ b.number
  pub has_method : IsMethodOf r found method
  pub is_method : IsMethodOf r b method
